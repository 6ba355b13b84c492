-- Bindings over the trees of a bank.
use Rattle.std.specs.Prelude.{◌≡◌, ℕ, ◌<◌, ◌≤◌, None, List, [], ◌∷◌, length}
use Rattle.spec_trees.specs.Tree.{Leaf, bind}
use Rattle.spec_terms.specs.Term.{Term, Subst}
use Rattle.spec_terms.specs.Binding.{Binding, AreDistinct, NeverLeadsBack, Solves}
use Rattle.spec_terms.specs.Rank.{height, ranks}
use Rattle.term_tree.specs.Bank.{tree_at}
use Rattle.term_tree.specs.declared.bank.Id.{Id}
use Rattle.unify_match.specs.declared.bound.Bound.{Bound}
use Rattle.unify_match.specs.Trail.{id_of}

-- the bindings, with the trees that their ids name
abbrev pub seen : List Term → List Bound → List Binding
seen all [] = []
seen all (b ∷ bs) = record { var = b.var; to = tree_at all b.id } ∷ seen all bs

-- each binding's id names a tree of the bank
abbrev pub AreInBank : List Term → List Bound → Type 0
AreInBank all [] = Unit {0}
AreInBank all (b ∷ bs) = (b.id.index < length all) × AreInBank all bs

-- bindings to terms of the bank, of each variable once at most
pub record AreBindings (all : List Term) (pairs : List Bound) : Type 0 where
  pub known : AreInBank all pairs
  pub once : AreDistinct (seen all pairs)

-- bindings to terms of the bank, of which no variable leads back to itself
pub record IsReady (all : List Term) (pairs : List Bound) : Type 0 where
  pub known : AreInBank all pairs
  pub acyclic : NeverLeadsBack (seen all pairs)

-- `to` is where the bindings of variables lead from `from`: the two are one term under each solution, the
-- end is no bound variable, and it is the beginning where that is none
pub record IsWalked (all : List Term) (pairs : List Bound) (from to : Id) : Type 0 where
  pub known : to.index < length all
  pub same : (s : Subst) → Solves s (seen all pairs) → bind s (tree_at all to) ≡ bind s (tree_at all from)
  pub lower : height (ranks (seen all pairs)) (tree_at all to) ≤ height (ranks (seen all pairs)) (tree_at all from)
  pub unbound : (x : ℕ) → tree_at all to ≡ Leaf x → id_of pairs x ≡ None
  pub stays : ((x : ℕ) → tree_at all from ≡ Leaf x → id_of pairs x ≡ None) → to ≡ from
