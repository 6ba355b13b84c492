-- Terms without variables.
use Rattle.std.proofs.Common.{◌≡◌, ℕ, Bool, true, false, not, nat_eq, refl, ap, ◌∙◌}
use Rattle.spec_trees.specs.Tree.{Tree, Trees, Leaf, Node, none, more, bind, binds, some_leaf, some_leaves}
use Rattle.spec_trees.proofs.Occurrence.{or_false}
use Rattle.spec_trees.proofs.Substitution.{bind-agree, bind-Leaf}
use Rattle.spec_terms.specs.Term.{Sym, Term, Subst, has_var, is_ground}

-- a tree without leaves has none that passes a test
mutual
  no_leaf : (p : ℕ → Bool) (t : Term) → some_leaf (λ x. true) t ≡ false → some_leaf p t ≡ false
  no_leaf p (Leaf x) h = cc
  no_leaf p (Node f args) h = no_leaves p args h

  no_leaves : (p : ℕ → Bool) (ts : Trees ℕ Sym) → some_leaves (λ x. true) ts ≡ false → some_leaves p ts ≡ false
  no_leaves p none h = refl
  no_leaves p (more t ts) h =
      let parts = or_false (some_leaf (λ x. true) t) (some_leaves (λ x. true) ts) h in
      cc (no_leaf p t parts.0, no_leaves p ts parts.1)

leafless : (t : Term) → is_ground t ≡ true → some_leaf (λ x. true) t ≡ false
leafless t h = go (some_leaf (λ x. true) t) h where
  go : (b : Bool) → not b ≡ true → b ≡ false
  go true h = cc
  go false h = refl

pub ground-has_var : (t : Term) → is_ground t ≡ true → (x : ℕ) → has_var x t ≡ false
ground-has_var t h x = no_leaf (nat_eq x) t (leafless t h)

pub ground-bind : (s : Subst) (t : Term) → is_ground t ≡ true → bind s t ≡ t
ground-bind s t h = bind-agree (λ x. true) s Leaf (λ x e. cc) t (leafless t h) ∙ bind-Leaf t
