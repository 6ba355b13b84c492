-- Replacing one variable, and where variables stand.
use Rattle.std.proofs.Common.{◌≡◌, ℕ, ◌⊎◌, Bool, true, false, ◌||◌, cond, nat_eq, Some, None, refl, sym, ap, ◌∙◌, inl, inr, eqb-true, eq-eqb, ne_eqb}
use Rattle.std.proofs.lemmas.Bool.{or_left, or_right}
use Rattle.spec_trees.specs.Tree.{Trees, Leaf, Node, none, more, bind, binds, after, some_leaves}
use Rattle.spec_trees.proofs.Substitution.{bind-Leaf, bind-agree}
use Rattle.spec_trees.proofs.Occurrence.{or_true}
use Rattle.spec_terms.specs.Term.{Sym, Term, Subst, has_var}
use Rattle.spec_terms.specs.Binding.{only}

-- nothing is both Some and None
pub some_none : {X : Type 0} {x : X} → Some x ≡ None → ⊥
some_none e = cc

pub some_same : {X : Type 0} {x y : X} → Some x ≡ Some y → x ≡ y
some_same e = cc

-- a variable is there or not
pub is_there : (b : Bool) → (b ≡ true) ⊎ (b ≡ false)
is_there true = inl refl
is_there false = inr refl

pub eqb_self : (x : ℕ) → nat_eq x x ≡ true
eqb_self x = eq-eqb x x refl

pub eqb_sym : (x y : ℕ) → nat_eq x y ≡ false → nat_eq y x ≡ false
eqb_sym x y h = ne_eqb y x (λ e. let same : nat_eq x y ≡ true = eq-eqb x y (sym e) in cc)

pub only-self : (x : ℕ) (t : Term) → only x t x ≡ t
only-self x t = rw (eqb_self x) refl

pub only-other : (x : ℕ) (t : Term) (y : ℕ) → nat_eq x y ≡ false → only x t y ≡ Leaf y
only-other x t y h = rw h refl

-- where x does not stand its replacement changes nothing
pub only-absent : (x : ℕ) (u t : Term) → has_var x t ≡ false → bind (only x u) t ≡ t
only-absent x u t absent = bind-agree (nat_eq x) (only x u) Leaf (only-other x u) t absent ∙ bind-Leaf t

-- a substitution that has at x what it makes of u reads through the replacement
pub after_only : (s : Subst) (x : ℕ) (u : Term) → s x ≡ bind s u → (y : ℕ) → after s (only x u) y ≡ s y
after_only s x u e y = go (nat_eq x y) refl where
  go : (b : Bool) → nat_eq x y ≡ b → bind s (cond (nat_eq x y) u (Leaf y)) ≡ s y
  go true same = rw same (sym e ∙ ap s (eqb-true x y same))
  go false other = rw other refl

-- a variable that stands in t under s stands in what s has for a variable of t
mutual
  pub var_source : (s : Subst) (x : ℕ) (t : Term) → has_var x (bind s t) ≡ true → (y : ℕ) × (has_var y t ≡ true) × (has_var x (s y) ≡ true)
  var_source s x (Leaf y) h = (y, eqb_self y, h)
  var_source s x (Node f args) h = var_sources s x args h

  pub var_sources : (s : Subst) (x : ℕ) (ts : Trees ℕ Sym) → some_leaves (nat_eq x) (binds s ts) ≡ true → (y : ℕ) × (some_leaves (nat_eq y) ts ≡ true) × (has_var x (s y) ≡ true)
  var_sources s x none h = cc
  var_sources s x (more t ts) h =
      elim (or_true (has_var x (bind s t)) (some_leaves (nat_eq x) (binds s ts)) h) as (λ _. (y : ℕ) × (some_leaves (nat_eq y) (more t ts) ≡ true) × (has_var x (s y) ≡ true)) [
        | inl here ↦ (let found = var_source s x t here in (found.0, or_left (has_var found.0 t) (some_leaves (nat_eq found.0) ts) found.1, found.2))
        | inr there ↦ (let found = var_sources s x ts there in (found.0, or_right (has_var found.0 t) (some_leaves (nat_eq found.0) ts) found.1, found.2))
      ]

-- and what s has for a variable of t stands in t under s
mutual
  pub var_reaches : (s : Subst) (x y : ℕ) (t : Term) → has_var y t ≡ true → has_var x (s y) ≡ true → has_var x (bind s t) ≡ true
  var_reaches s x y (Leaf z) h k = let e : y ≡ z = eqb-true y z h in rw (← e) k
  var_reaches s x y (Node f args) h k = var_reaches_row s x y args h k

  pub var_reaches_row : (s : Subst) (x y : ℕ) (ts : Trees ℕ Sym) → some_leaves (nat_eq y) ts ≡ true → has_var x (s y) ≡ true → some_leaves (nat_eq x) (binds s ts) ≡ true
  var_reaches_row s x y none h k = cc
  var_reaches_row s x y (more t ts) h k =
      elim (or_true (has_var y t) (some_leaves (nat_eq y) ts) h) as (λ _. some_leaves (nat_eq x) (binds s (more t ts)) ≡ true) [
        | inl here ↦ or_left (has_var x (bind s t)) (some_leaves (nat_eq x) (binds s ts)) (var_reaches s x y t here k)
        | inr there ↦ or_right (has_var x (bind s t)) (some_leaves (nat_eq x) (binds s ts)) (var_reaches_row s x y ts there k)
      ]
