-- A most general unifier is unique up to renaming.
use Rattle.std.proofs.Common.{◌≡◌, ℕ, true, nat_eq, refl, sym, ap, ◌∙◌, inl, inr, eqb-true}
use Rattle.spec_trees.specs.Tree.{Trees, Leaf, Node, none, more, bind, binds, after, some_leaves}
use Rattle.spec_trees.proofs.Substitution.{bind-bind}
use Rattle.spec_trees.proofs.Occurrence.{or_true}
use Rattle.spec_terms.specs.Term.{Sym, Term, Subst, has_var}
use Rattle.spec_terms.specs.Unifier.{Factors, IsMgu, IsRenaming}

-- what leaves a term as it is leaves each of its variables
mutual
  pub fixed_var : (u : Subst) (t : Term) (y : ℕ) → bind u t ≡ t → has_var y t ≡ true → u y ≡ Leaf y
  fixed_var u (Leaf x) y e here = let same : y ≡ x = eqb-true y x here in ap u same ∙ (e ∙ ap Leaf (sym same))
  fixed_var u (Node f args) y e here = let row : binds u args ≡ args = cc in fixed_vars u args y row here

  pub fixed_vars : (u : Subst) (ts : Trees ℕ Sym) (y : ℕ) → binds u ts ≡ ts → some_leaves (nat_eq y) ts ≡ true → u y ≡ Leaf y
  fixed_vars u none y e here = cc
  fixed_vars u (more t ts) y e here =
      let first : bind u t ≡ t = cc in
      let others : binds u ts ≡ ts = cc in
      elim (or_true (has_var y t) (some_leaves (nat_eq y) ts) here) as (λ _. u y ≡ Leaf y) [
        | inl in_first ↦ fixed_var u t y first in_first
        | inr in_others ↦ fixed_vars u ts y others in_others
      ]

-- only a variable becomes a variable
leaf_source : (r : Subst) (t : Term) (y : ℕ) → bind r t ≡ Leaf y → (z : ℕ) × (t ≡ Leaf z) × (r z ≡ Leaf y)
leaf_source r (Leaf z) y e = (z, refl, e)
leaf_source r (Node f args) y e = cc

-- substitutions that factor through each other
pub factors_unique : (s t : Subst) → Factors t s → Factors s t → (q r : Subst) × ((x : ℕ) → after q s x ≡ t x) × ((x : ℕ) → after r t x ≡ s x) × IsRenaming s q r
factors_unique s t there back = (
  there.0,
  back.0,
  there.1,
  back.1,
  λ x y here.
      let round : bind (after back.0 there.0) (s x) ≡ s x = sym (bind-bind back.0 there.0 (s x)) ∙ (ap (bind back.0) (there.1 x) ∙ back.1 x) in
      leaf_source back.0 (there.0 y) y (fixed_var (after back.0 there.0) (s x) y round here),
)

pub mgu_unique : (a b : Term) (s t : Subst) → IsMgu a b s → IsMgu a b t → (q r : Subst) × ((x : ℕ) → after q s x ≡ t x) × ((x : ℕ) → after r t x ≡ s x) × IsRenaming s q r
mgu_unique a b s t first second = factors_unique s t (first.most t second.accepted) (second.most s first.accepted)
