-- Substitutions as they are applied to terms of a bank: what bindings stand for, and renamings.
use Rattle.std.specs.Prelude.{◌≡◌, ℕ, ◌+◌, ◌<◌, ◌≤◌, IsTrue, None, List, [], length}
use Rattle.spec_trees.specs.Tree.{Leaf, Node, items_of, bind}
use Rattle.spec_terms.specs.Term.{Term, Subst, has_var}
use Rattle.spec_terms.specs.Unifier.{moved, renumbered}
use Rattle.spec_terms.specs.Binding.{resolved}
use Rattle.spec_terms.specs.Rank.{height, ranks}
use Rattle.term_tree.specs.Bank.{tree_at}
use Rattle.term_tree.specs.declared.bank.Id.{Id}
use Rattle.unify_match.specs.declared.substitute.Substitution.{Substitution}
use Rattle.unify_match.specs.declared.substitute.Substitution.TheVariants.{Bindings, Offset, Numbers}
use Rattle.unify_match.specs.Trail.{id_of}
use Rattle.unify_match.specs.Seen.{seen, IsReady}

-- the substitution
abbrev pub subst_of : List Term → Substitution → Subst
subst_of all (Bindings b) = resolved (seen all b.now.pairs)
subst_of all (Offset n) = moved n
subst_of all (Numbers table) = renumbered table.now

-- it can be applied to the term
abbrev pub CanChange : List Term → Substitution → Term → Type 0
CanChange all (Bindings b) t = IsReady all b.now.pairs
CanChange all (Offset n) t = (x : ℕ) → IsTrue (has_var x t) → x + n < 4294967296
CanChange all (Numbers table) t = Unit {0}

-- the variable's new number is a number
abbrev pub Fits : Substitution → ℕ → Type 0
Fits (Bindings b) x = Unit {0}
Fits (Offset n) x = x + n < 4294967296
Fits (Numbers table) x = Unit {0}

-- the heights of variables, which fall as bindings are followed
abbrev pub rank_of : List Term → Substitution → ℕ → ℕ
rank_of all (Bindings b) x = ranks (seen all b.now.pairs) x
rank_of all (Offset n) x = 1
rank_of all (Numbers table) x = 1

-- bindings do not lead on from the variable
abbrev pub IsFinal : Substitution → ℕ → Type 0
IsFinal (Bindings b) x = id_of b.now.pairs x ≡ None
IsFinal (Offset n) x = Unit {0}
IsFinal (Numbers table) x = Unit {0}

-- the arguments of a term's root; a variable has none
abbrev pub arguments : Term → List Term
arguments (Leaf x) = []
arguments (Node f args) = items_of args

-- `to` is where bindings lead from `from`
pub record IsLed (all : List Term) (change : Substitution) (from to : Id) : Type 0 where
  pub known : to.index < length all
  pub ready : CanChange all change (tree_at all to)
  pub same : bind (subst_of all change) (tree_at all to) ≡ bind (subst_of all change) (tree_at all from)
  pub lower : height (rank_of all change) (tree_at all to) ≤ height (rank_of all change) (tree_at all from)
  pub final : (x : ℕ) → tree_at all to ≡ Leaf x → IsFinal change x
  pub stays : bind (subst_of all change) (tree_at all from) ≡ tree_at all from → to ≡ from
