-- A rank for each variable: above those of all variables that its binding holds. So nothing leads back.
use Rattle.std.proofs.Common.{◌≡◌, ℕ, ◌+◌, ◌≤◌, ◌<◌, max, ◌⊎◌, Bool, true, false, nat_eq, Some, List, [], ◌∷◌, refl, sym, ap, ◌∙◌, inl, inr, arith, eqb-true}
use Rattle.spec_trees.specs.Tree.{Trees, Leaf, Node, none, more, bind, some_leaves}
use Rattle.spec_trees.proofs.Occurrence.{or_true}
use Rattle.spec_terms.specs.Term.{Sym, Term, has_var}
use Rattle.spec_terms.specs.Binding.{Binding, bound_to, Leads, directly, by_way_of, resolved}
use Rattle.spec_terms.specs.Rank.{height, heights, ranks}
use Rattle.std.proofs.lemmas.Bool.{or_left, or_right}
use Rattle.spec_terms.proofs.Replace.{some_none, some_same, eqb_self, is_there, var_reaches}
use Rattle.spec_terms.proofs.Resolve.{IsSound, bound_to-newest, bound_to-other, resolved-unbound, resolved-solves, Solves-at}

-- a variable is no higher than a term in which it stands
mutual
  pub height-var : (h : ℕ → ℕ) (x : ℕ) (t : Term) → has_var x t ≡ true → h x ≤ height h t
  height-var h x (Leaf y) e = let same : x ≡ y = eqb-true x y e in rw (← same) (omega arith)
  height-var h x (Node f args) e = omega (arith, heights-var h x args e)

  pub heights-var : (h : ℕ → ℕ) (x : ℕ) (ts : Trees ℕ Sym) → some_leaves (nat_eq x) ts ≡ true → h x ≤ heights h ts
  heights-var h x none e = cc
  heights-var h x (more t ts) e =
      elim (or_true (has_var x t) (some_leaves (nat_eq x) ts) e) as (λ _. h x ≤ max (height h t) (heights h ts)) [
        | inl here ↦ omega (arith, height-var h x t here)
        | inr there ↦ omega (arith, heights-var h x ts there)
      ]

-- heights that differ by n at most at the variables that stand in a term differ by n at most
mutual
  pub height-le : (h k : ℕ → ℕ) (n : ℕ) (t : Term) → ((x : ℕ) → has_var x t ≡ true → h x ≤ k x + n) → height h t ≤ height k t + n
  height-le h k n (Leaf y) below = below y (eqb_self y)
  height-le h k n (Node f args) below = omega (arith, heights-le h k n args below)

  pub heights-le : (h k : ℕ → ℕ) (n : ℕ) (ts : Trees ℕ Sym) → ((x : ℕ) → some_leaves (nat_eq x) ts ≡ true → h x ≤ k x + n) → heights h ts ≤ heights k ts + n
  heights-le h k n none below = omega arith
  heights-le h k n (more t ts) below =
      omega (
        arith,
        height-le h k n t (λ x e. below x (or_left (has_var x t) (some_leaves (nat_eq x) ts) e)),
        heights-le h k n ts (λ x e. below x (or_right (has_var x t) (some_leaves (nat_eq x) ts) e)),
      )

-- a new binding leaves each rank or raises it by the height of its term and one
pub ranks-kept : (b : Binding) (bs : List Binding) (y : ℕ) → has_var b.var (resolved bs y) ≡ false → ranks (b ∷ bs) y ≡ ranks bs y
ranks-kept b bs y h = rw h refl

pub ranks-raised : (b : Binding) (bs : List Binding) (y : ℕ) → has_var b.var (resolved bs y) ≡ true → ranks (b ∷ bs) y ≡ ranks bs y + (height (ranks bs) b.to + 1)
ranks-raised b bs y h = rw h refl

pub ranks-at_most : (b : Binding) (bs : List Binding) (y : ℕ) → ranks (b ∷ bs) y ≤ ranks bs y + (height (ranks bs) b.to + 1)
ranks-at_most b bs y = elim (is_there (has_var b.var (resolved bs y))) as (λ _. ranks (b ∷ bs) y ≤ ranks bs y + (height (ranks bs) b.to + 1)) [
  | inl raised ↦ omega (arith, ranks-raised b bs y raised)
  | inr kept ↦ omega (arith, ranks-kept b bs y kept)
]

-- nothing that stands in t leads to the new variable, where it does not stand in what t stands for
pub height-kept : (b : Binding) (bs : List Binding) (t : Term) → has_var b.var (bind (resolved bs) t) ≡ false → height (ranks (b ∷ bs)) t ≤ height (ranks bs) t
height-kept b bs t absent =
    let below : height (ranks (b ∷ bs)) t ≤ height (ranks bs) t + 0 = height-le (ranks (b ∷ bs)) (ranks bs) 0 t (λ x here. at x here (is_there (has_var b.var (resolved bs x)))) in omega arith
  where
    at : (x : ℕ) → has_var x t ≡ true → (has_var b.var (resolved bs x) ≡ true) ⊎ (has_var b.var (resolved bs x) ≡ false) → ranks (b ∷ bs) x ≤ ranks bs x + 0
    at x here (inl leads) = let reaches : has_var b.var (bind (resolved bs) t) ≡ true = var_reaches (resolved bs) b.var x t here leads in cc
    at x here (inr apart) = omega (arith, ranks-kept b bs x apart)

-- in sound bindings each term is below the rank of its variable
pub ranks-fall : (bs : List Binding) → IsSound bs → (x : ℕ) (t : Term) → bound_to bs x ≡ Some t → height (ranks bs) t < ranks bs x
ranks-fall [] sound x t e = absurd (some_none (sym e))
ranks-fall (b ∷ bs) sound x t e = go (ranks-fall bs sound.2 x t) (nat_eq x b.var) refl where
  older : bound_to bs x ≡ Some t → height (ranks bs) t < ranks bs x → height (ranks (b ∷ bs)) t < ranks (b ∷ bs) x
  older f below = elim (is_there (has_var b.var (resolved bs x))) as (λ _. height (ranks (b ∷ bs)) t < ranks (b ∷ bs) x) [
    | inl raised ↦ (let most : height (ranks (b ∷ bs)) t ≤ height (ranks bs) t + (height (ranks bs) b.to + 1) = height-le (ranks (b ∷ bs)) (ranks bs) (height (ranks bs) b.to + 1) t (λ y here. ranks-at_most b bs y) in omega (arith, ranks-raised b bs x raised))
    | inr kept ↦ (let same : resolved bs x ≡ bind (resolved bs) t = Solves-at (resolved bs) bs x t (resolved-solves bs sound.2) f in
        let apart : has_var b.var (bind (resolved bs) t) ≡ false = sym (ap (has_var b.var) same) ∙ kept in
        omega (arith, ranks-kept b bs x kept, height-kept b bs t apart))
  ]

  go : (bound_to bs x ≡ Some t → height (ranks bs) t < ranks bs x) → (c : Bool) → nat_eq x b.var ≡ c → height (ranks (b ∷ bs)) t < ranks (b ∷ bs) x
  go below true same =
      let is : b.to ≡ t = some_same (sym (bound_to-newest b bs x same) ∙ e) in
      let var : x ≡ b.var = eqb-true x b.var same in
      let self : has_var b.var (resolved bs x) ≡ true = ap (has_var b.var) (ap (resolved bs) var ∙ resolved-unbound bs b.var sound.0) ∙ eqb_self b.var in
      let apart : has_var b.var (bind (resolved bs) t) ≡ false = sym (ap (λ u. has_var b.var (bind (resolved bs) u)) is) ∙ sound.1 in
      omega (arith, ranks-raised b bs x self, height-kept b bs t apart, ap (height (ranks bs)) is)
  go below false other = older (sym (bound_to-other b bs x other) ∙ e) (below (sym (bound_to-other b bs x other) ∙ e))

-- so what a variable leads to is of lower rank
pub Leads-falls : (bs : List Binding) → IsSound bs → (x y : ℕ) → Leads bs x y → ranks bs y < ranks bs x
Leads-falls bs sound x y (directly {t = t} e here) = omega (arith, ranks-fall bs sound x t e, height-var (ranks bs) y t here)
Leads-falls bs sound x z (by_way_of {y = y} {t = t} e here onward) = omega (arith, ranks-fall bs sound x t e, height-var (ranks bs) y t here, Leads-falls bs sound y z onward)
