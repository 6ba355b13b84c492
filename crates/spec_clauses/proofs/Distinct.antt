-- Distinct items, and their places.
use Rattle.std.proofs.Common.{◌≡◌, ◌↔◌, ℕ, suc, ◌+◌, Bool, true, false, not, ◌||◌, ◌&&◌, cond, nat_eq, List, [], ◌∷◌, map, length, get_or, refl, ap, sym, ◌∙◌, eqb-true, eq-eqb, arith}
use Rattle.std.specs.Prelude.{filter}
use Rattle.std.specs.List.{AllByRecursion, IsDistinct, list_any, list_all, range_with_len}
use Rattle.spec_clauses.specs.Norm.{distinct, place_of}
use Rattle.std.proofs.lemmas.Bool.{or_left, or_right}
use Rattle.spec_terms.proofs.Replace.{eqb_self, eqb_sym}
use Rattle.spec_clauses.proofs.Lists.{all_filter, all_weaker, map_same, filter-map, filter-filter}

-- what passes a test
pub all-filter_passes : {X : Type 0} (test : X → Bool) (xs : List X) → AllByRecursion (λ x. test x ≡ true) (filter test xs)
all-filter_passes test [] = tt
all-filter_passes test (x ∷ xs) = go (test x) refl (all-filter_passes test xs) where
  go : (b : Bool) → test x ≡ b → AllByRecursion (λ x. test x ≡ true) (filter test xs) → AllByRecursion (λ x. test x ≡ true) (cond b (x ∷ filter test xs) (filter test xs))
  go true e others = (e, others)
  go false e others = others

pub filter-all : {X : Type 0} (test : X → Bool) (xs : List X) → AllByRecursion (λ x. test x ≡ true) xs → filter test xs ≡ xs
filter-all test [] a = refl
filter-all test (x ∷ xs) a = rw a.0 (ap (λ ys. x ∷ ys) (filter-all test xs a.1))

-- a filter that asks no more than one behind it is needless
pub filter-weaker : {X : Type 0} (p q : X → Bool) (xs : List X) → ((x : X) → p x ≡ true → q x ≡ true) → filter p (filter q xs) ≡ filter p xs
filter-weaker p q xs weaker = filter-filter p q xs ∙ filter-all q (filter p xs) (all_weaker (λ x. p x ≡ true) (λ x. q x ≡ true) weaker (filter p xs) (all-filter_passes p xs))

module _ {X : Type 0} (same : X → X → Bool) where
  pub distinct-filter : (test : X → Bool) (xs : List X) → IsDistinct same xs → IsDistinct same (filter test xs)
  unfolding IsDistinct
  distinct-filter test [] d = tt
  distinct-filter test (x ∷ xs) d =
      let others = distinct-filter test xs d.1 in
      elim (test x) as (λ b. IsDistinct same (cond b (x ∷ filter test xs) (filter test xs))) [
        | true ↦ (all_filter (λ y. same x y ≡ false) test xs d.0, others)
        | false ↦ others
      ]

  pub distinct-distinct : (xs : List X) → IsDistinct same (distinct same xs)
  unfolding IsDistinct
  distinct-distinct [] = tt
  distinct-distinct (x ∷ xs) = (
    all_weaker (λ y. not (same x y) ≡ true) (λ y. same x y ≡ false) (λ y. of_not (same x y)) (filter (λ y. not (same x y)) (distinct same xs)) (all-filter_passes (λ y. not (same x y)) (distinct same xs)),
    distinct-filter (λ y. not (same x y)) (distinct same xs) (distinct-distinct xs),
  ) where
    of_not : (b : Bool) → not b ≡ true → b ≡ false
    of_not true e = cc
    of_not false e = refl

  -- distinct items are their own
  pub distinct-fixed : (xs : List X) → IsDistinct same xs → distinct same xs ≡ xs
  unfolding IsDistinct
  distinct-fixed [] d = refl
  distinct-fixed (x ∷ xs) d =
      ap (λ ys. x ∷ filter (λ y. not (same x y)) ys) (distinct-fixed xs d.1)
      ∙ ap (λ ys. x ∷ ys) (filter-all (λ y. not (same x y)) xs (all_weaker (λ y. same x y ≡ false) (λ y. not (same x y) ≡ true) (λ y e. ap not e) xs d.0))

-- Each item stands among the distinct ones, where the test decides equality.
module _ {X : Type 0} (same : X → X → Bool) (decides : (x y : X) → (same x y ≡ true) ↔ (x ≡ y)) where
  pub cases_same : (x y : X) (P : Bool → Type 0) → (x ≡ y → P true) → (same x y ≡ false → P false) → P (same x y)
  cases_same x y P alike other = go (same x y) refl where
    go : (b : Bool) → same x y ≡ b → P b
    go true e = alike ((decides x y).0 e)
    go false e = other e

  differ_sym : (x y : X) → same x y ≡ false → same y x ≡ false
  differ_sym x y e = cases_same y x (λ b. b ≡ false) (λ alike. let clash : same x y ≡ true = (decides x y).1 (sym alike) in cc) (λ k. refl)

  stands_filtered : (x y : X) (ys : List X) → same y x ≡ false → list_any (same x) (filter (λ z. not (same y z)) ys) ≡ list_any (same x) ys
  stands_filtered x y [] e = refl
  stands_filtered x y (z ∷ ys) e =
      let others = stands_filtered x y ys e in
      cases_same y z (λ b. list_any (same x) (cond (not b) (z ∷ filter (λ w. not (same y w)) ys) (filter (λ w. not (same y w)) ys)) ≡ (same x z || list_any (same x) ys))
      (λ alike. let apart : same x z ≡ false = differ_sym z x (ap (λ w. same w x) (sym alike) ∙ e) in others ∙ ap (λ b. b || list_any (same x) ys) (sym apart))
      (λ k. ap (λ b. same x z || b) others)

  pub stands_distinct : (x : X) (ys : List X) → list_any (same x) (distinct same ys) ≡ list_any (same x) ys
  stands_distinct x [] = refl
  stands_distinct x (y ∷ ys) =
      let others = stands_distinct x ys in
      cases_same x y (λ b. (b || list_any (same x) (filter (λ z. not (same y z)) (distinct same ys))) ≡ (b || list_any (same x) ys))
      (λ alike. refl)
      (λ k. stands_filtered x y (distinct same ys) (differ_sym x y k) ∙ others)

  -- A test passes on some distinct item where it does on some item, and on all where it does on all.
  any-others : (test : X → Bool) (x : X) (ys : List X) → test x ≡ false → list_any test (filter (λ z. not (same x z)) ys) ≡ list_any test ys
  any-others test x [] e = refl
  any-others test x (y ∷ ys) e =
      let others = any-others test x ys e in
      cases_same x y (λ b. list_any test (cond (not b) (y ∷ filter (λ z. not (same x z)) ys) (filter (λ z. not (same x z)) ys)) ≡ (test y || list_any test ys))
      (λ alike. let fails : test y ≡ false = ap test (sym alike) ∙ e in others ∙ ap (λ b. b || list_any test ys) (sym fails))
      (λ k. ap (λ b. test y || b) others)

  pub any-distinct : (test : X → Bool) (xs : List X) → list_any test (distinct same xs) ≡ list_any test xs
  any-distinct test [] = refl
  any-distinct test (x ∷ xs) = go (test x) refl (any-distinct test xs) where
    go : (b : Bool) → test x ≡ b → list_any test (distinct same xs) ≡ list_any test xs → (b || list_any test (filter (λ y. not (same x y)) (distinct same xs))) ≡ (b || list_any test xs)
    go true e others = refl
    go false e others = any-others test x (distinct same xs) e ∙ others

  all-others : (test : X → Bool) (x : X) (ys : List X) → test x ≡ true → list_all test (filter (λ z. not (same x z)) ys) ≡ list_all test ys
  all-others test x [] e = refl
  all-others test x (y ∷ ys) e =
      let others = all-others test x ys e in
      cases_same x y (λ b. list_all test (cond (not b) (y ∷ filter (λ z. not (same x z)) ys) (filter (λ z. not (same x z)) ys)) ≡ (test y && list_all test ys))
      (λ alike. let passes : test y ≡ true = ap test (sym alike) ∙ e in others ∙ ap (λ b. b && list_all test ys) (sym passes))
      (λ k. ap (λ b. test y && b) others)

  pub all_pass-distinct : (test : X → Bool) (xs : List X) → list_all test (distinct same xs) ≡ list_all test xs
  all_pass-distinct test [] = refl
  all_pass-distinct test (x ∷ xs) = go (test x) refl (all_pass-distinct test xs) where
    go : (b : Bool) → test x ≡ b → list_all test (distinct same xs) ≡ list_all test xs → (b && list_all test (filter (λ y. not (same x y)) (distinct same xs))) ≡ (b && list_all test xs)
    go true e others = all-others test x (distinct same xs) e ∙ others
    go false e others = refl

  -- What passes a test of the distinct items is what is distinct of those that pass.
  pub filter-distinct : (test : X → Bool) (xs : List X) → filter test (distinct same xs) ≡ distinct same (filter test xs)
  filter-distinct test [] = refl
  filter-distinct test (x ∷ xs) = go (test x) refl (filter-distinct test xs) where
    fresh : X → Bool
    fresh y = not (same x y)

    passes : test x ≡ false → (z : X) → test z ≡ true → fresh z ≡ true
    passes e z k = cases_same x z (λ b. not b ≡ true) (λ alike. sym e ∙ (ap test alike ∙ k)) (λ differ. refl)

    go : (b : Bool) → test x ≡ b → filter test (distinct same xs) ≡ distinct same (filter test xs)
        → cond b (x ∷ filter test (filter fresh (distinct same xs))) (filter test (filter fresh (distinct same xs))) ≡ distinct same (cond b (x ∷ filter test xs) (filter test xs))
    go true e others = ap (λ ys. x ∷ ys) (filter-filter test fresh (distinct same xs) ∙ ap (filter fresh) others)
    go false e others = filter-weaker test fresh (distinct same xs) (passes e) ∙ others

  -- Of what a map makes of the distinct items is distinct what is of all.
  pub distinct-map_distinct : (g : X → X) (xs : List X) → distinct same (map g (distinct same xs)) ≡ distinct same (map g xs)
  distinct-map_distinct g [] = refl
  distinct-map_distinct g (x ∷ xs) = ap (λ ys. g x ∷ ys) (shrunk (distinct same xs) ∙ ap (filter made) (distinct-map_distinct g xs)) where
    fresh : X → Bool
    fresh y = not (same x y)

    made : X → Bool
    made y = not (same (g x) y)

    weaker : (z : X) → made (g z) ≡ true → fresh z ≡ true
    weaker z k = cases_same x z (λ b. not b ≡ true) (λ alike. sym (ap not ((decides (g x) (g z)).1 (ap g alike))) ∙ k) (λ differ. refl)

    shrunk : (ys : List X) → filter made (distinct same (map g (filter fresh ys))) ≡ filter made (distinct same (map g ys))
    shrunk ys =
        filter-distinct made (map g (filter fresh ys))
        ∙ (ap (distinct same) (filter-map g made (filter fresh ys) ∙ (ap (map g) (filter-weaker (λ y. made (g y)) fresh ys weaker) ∙ sym (filter-map g made ys)))
        ∙ sym (filter-distinct made (map g ys)))

pub nat_eq-decides : (x y : ℕ) → (nat_eq x y ≡ true) ↔ (x ≡ y)
nat_eq-decides x y = (eqb-true x y, eq-eqb x y)

-- A number stands
-- at its place,
pub at_place : (x : ℕ) (ys : List ℕ) → list_any (nat_eq x) ys ≡ true → get_or ys (place_of x ys) 0 ≡ x
at_place x [] e = cc
at_place x (y ∷ ys) e =
    cases_same nat_eq nat_eq-decides x y (λ b. (b || list_any (nat_eq x) ys) ≡ true → get_or (y ∷ ys) (cond b 0 (suc (place_of x ys))) 0 ≡ x)
    (λ same l. sym same)
    (λ k l. at_place x ys l) e

pub stand_all : (xs : List ℕ) → AllByRecursion (λ x. list_any (nat_eq x) xs ≡ true) xs
stand_all [] = tt
stand_all (x ∷ xs) = (
  or_left (nat_eq x x) (list_any (nat_eq x) xs) (eqb_self x),
  all_weaker (λ y. list_any (nat_eq y) xs ≡ true) (λ y. list_any (nat_eq y) (x ∷ xs) ≡ true) (λ y e. or_right (nat_eq y x) (list_any (nat_eq y) xs) e) xs (stand_all xs),
)

pub number_back : (xs : List ℕ) (x : ℕ) → list_any (nat_eq x) xs ≡ true → get_or (distinct nat_eq xs) (place_of x (distinct nat_eq xs)) 0 ≡ x
number_back xs x e = at_place x (distinct nat_eq xs) (stands_distinct nat_eq nat_eq-decides x xs ∙ e)

pub at_places : (xs : List ℕ) → AllByRecursion (λ x. get_or (distinct nat_eq xs) (place_of x (distinct nat_eq xs)) 0 ≡ x) xs
at_places xs = all_weaker (λ x. list_any (nat_eq x) xs ≡ true) (λ x. get_or (distinct nat_eq xs) (place_of x (distinct nat_eq xs)) 0 ≡ x) (number_back xs) xs (stand_all xs)

-- and the places of distinct numbers are 0, 1 and so on.
places_from : (k : ℕ) (xs : List ℕ) → IsDistinct nat_eq xs → map (λ x. k + place_of x xs) xs ≡ range_with_len k (length xs)
unfolding IsDistinct
places_from k [] d = refl
places_from k (x ∷ xs) d =
    let shift : AllByRecursion (λ y. (k + place_of y (x ∷ xs)) ≡ ((k + 1) + place_of y xs)) xs = all_weaker (λ y. nat_eq x y ≡ false) (λ y. (k + place_of y (x ∷ xs)) ≡ ((k + 1) + place_of y xs)) (λ y e. rw (eqb_sym x y e) (omega arith)) xs d.0 in
    let first : (k + place_of x (x ∷ xs)) ≡ k = rw (eqb_self x) (omega arith) in
    let others = map_same (λ y. k + place_of y (x ∷ xs)) (λ y. (k + 1) + place_of y xs) xs shift ∙ places_from (k + 1) xs d.1 in
    λ i. first i ∷ others i

pub places_of_distinct : (xs : List ℕ) → IsDistinct nat_eq xs → map (λ x. place_of x xs) xs ≡ range_with_len 0 (length xs)
places_of_distinct xs d = map_same (λ x. place_of x xs) (λ x. 0 + place_of x xs) xs (all_true xs) ∙ places_from 0 xs d where
  all_true : (ys : List ℕ) → AllByRecursion (λ y. place_of y xs ≡ (0 + place_of y xs)) ys
  all_true [] = tt
  all_true (y ∷ ys) = (omega arith, all_true ys)
