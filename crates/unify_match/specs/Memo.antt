-- What is remembered: the ids in which a variable was not found, and the pairs of ids that were made one.
use Rattle.std.specs.Prelude.{◌≡◌, ℕ, ◌&&◌, Bool, true, false, nat_eq, List}
use Rattle.std.specs.HashSet.{contains}
use Rattle.spec_trees.specs.Tree.{bind}
use Rattle.spec_terms.specs.Term.{Term, Subst, has_var}
use Rattle.spec_terms.specs.Binding.{Solves, resolved}
use Rattle.term_tree.specs.Bank.{tree_at}
use Rattle.unify_match.specs.declared.bound.Bound.{Bound}
use Rattle.unify_match.specs.declared.memo.Memo.{Memo}
use Rattle.unify_match.specs.Seen.{seen}

-- whether two pairs of numbers are the same
abbrev pub same_pair : ℕ × ℕ → ℕ × ℕ → Bool
same_pair p q = nat_eq p.0 q.0 && nat_eq p.1 q.1

-- whether a pair of numbers is remembered
abbrev pub is_remembered : Memo → ℕ × ℕ → Bool
is_remembered memo q = contains same_pair memo.pairs q

-- the variable stands in nothing that the terms stand for that are remembered with it
abbrev pub AreClear : List Term → List Bound → ℕ → Memo → Type 0
AreClear all pairs var memo = (k : ℕ) → is_remembered memo (var, k) ≡ true → has_var var (bind (resolved (seen all pairs)) (tree_at all record { index = k })) ≡ false

-- each remembered pair of ids is one term under each solution of the bindings
abbrev pub AreMade : List Term → List Bound → Memo → Type 0
AreMade all pairs memo = (k : ℕ × ℕ) → is_remembered memo k ≡ true → (s : Subst) → Solves s (seen all pairs) → bind s (tree_at all record { index = k.0 }) ≡ bind s (tree_at all record { index = k.1 })
