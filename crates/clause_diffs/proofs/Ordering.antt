-- Numbers without repeats: as they are below a bound, there are no more of them, and each place is below it too.
use Rattle.std.proofs.Common.{◌≡◌, ℕ, suc, ◌<◌, ◌≤◌, Bool, true, false, not, ◌||◌, cond, nat_eq, List, [], ◌∷◌, length, filter, refl, eqb-true, arith}
use Rattle.std.specs.Prelude.{slice_index}
use Rattle.std.specs.List.{AllByRecursion, IsDistinct, list_any}
use Rattle.std.proofs.lemmas.Map.Steps.{length-le_from_distinct_below}
use Rattle.spec_clauses.specs.Norm.{distinct, place_of}

abbrev differs : ℕ → ℕ → Bool
differs x y = not (nat_eq x y)

-- what holds of all numbers holds of those that pass a test
module _ (Q : ℕ → Type 0) (p : ℕ → Bool) where
  kept_step : (x : ℕ) (xs : List ℕ) (b : Bool) → Q x → AllByRecursion Q xs → AllByRecursion Q (cond b (x ∷ xs) xs)
  kept_step x xs true q qs = (q, qs)
  kept_step x xs false q qs = qs

  kept : (xs : List ℕ) → AllByRecursion Q xs → AllByRecursion Q (filter p xs)
  kept [] qs = tt
  kept (x ∷ xs) qs = kept_step x (filter p xs) (p x) qs.0 (kept xs qs.1)

apart_step : (p : ℕ → Bool) (x : ℕ) (xs : List ℕ) (b : Bool) → AllByRecursion (λ y. nat_eq x y ≡ false) (filter p xs) → IsDistinct nat_eq (filter p xs) → IsDistinct nat_eq (cond b (x ∷ filter p xs) (filter p xs))
unfolding IsDistinct
apart_step p x xs true other rest = (other, rest)
apart_step p x xs false other rest = rest

apart_kept : (p : ℕ → Bool) (xs : List ℕ) → IsDistinct nat_eq xs → IsDistinct nat_eq (filter p xs)
unfolding IsDistinct
apart_kept p [] h = tt
apart_kept p (x ∷ xs) h = apart_step p x xs (p x) (kept (λ y. nat_eq x y ≡ false) p xs h.0) (apart_kept p xs h.1)

-- those that differ from a number
other_step : (x y : ℕ) (ys : List ℕ) (b : Bool) → nat_eq x y ≡ b → AllByRecursion (λ z. nat_eq x z ≡ false) ys → AllByRecursion (λ z. nat_eq x z ≡ false) (cond (not b) (y ∷ ys) ys)
other_step x y ys true e h = h
other_step x y ys false e h = (e, h)

others : (x : ℕ) (ys : List ℕ) → AllByRecursion (λ z. nat_eq x z ≡ false) (filter (differs x) ys)
others x [] = tt
others x (y ∷ ys) = other_step x y (filter (differs x) ys) (nat_eq x y) refl (others x ys)

distinct_apart : (xs : List ℕ) → IsDistinct nat_eq (distinct nat_eq xs)
unfolding IsDistinct
distinct_apart [] = tt
distinct_apart (x ∷ xs) = (others x (distinct nat_eq xs), apart_kept (differs x) (distinct nat_eq xs) (distinct_apart xs))

-- numbers below a bound
module _ (n : ℕ) where
  distinct_below : (xs : List ℕ) → AllByRecursion (λ x. x < n) xs → AllByRecursion (λ x. x < n) (distinct nat_eq xs)
  distinct_below [] h = tt
  distinct_below (x ∷ xs) h = (h.0, kept (λ y. y < n) (differs x) (distinct nat_eq xs) (distinct_below xs h.1))

  below_step : (q x : ℕ) (b c : Bool) → nat_eq q x ≡ b → x < n → (c ≡ true → q < n) → (b || c) ≡ true → q < n
  below_step q x true c e here later h = let same = eqb-true q x e in omega (arith, here)
  below_step q x false c e here later h = later h

  member_below : (q : ℕ) (xs : List ℕ) → AllByRecursion (λ x. x < n) xs → list_any (nat_eq q) xs ≡ true → q < n
  member_below q [] h any = absurd (let none = any in cc)
  member_below q (x ∷ xs) h any = below_step q x (nat_eq q x) (list_any (nat_eq q) xs) refl h.0 (λ later. member_below q xs h.1 later) any

  no_more : (xs : List ℕ) → IsDistinct nat_eq xs → AllByRecursion (λ x. x < n) xs → length xs ≤ n
  no_more xs apart below = length-le_from_distinct_below xs n apart (λ q any. member_below q xs below any)

  -- a number that stands among them has a place before their end
  place_step : (b c : Bool) (p l : ℕ) → (c ≡ true → p < l) → (b || c) ≡ true → cond b 0 (suc p) < suc l
  place_step true c p l later h = omega arith
  place_step false c p l later h = omega (arith, later h)

  place_among : (x : ℕ) (xs : List ℕ) → list_any (nat_eq x) xs ≡ true → place_of x xs < length xs
  place_among x [] any = absurd (let none = any in cc)
  place_among x (y ∷ ys) any = place_step (nat_eq x y) (list_any (nat_eq x) ys) (place_of x ys) (length ys) (λ later. place_among x ys later) any

  end_step : (b : Bool) (p l : ℕ) → p ≤ l → cond b 0 (suc p) ≤ suc l
  end_step true p l h = omega arith
  end_step false p l h = omega (arith, h)

  place_at_most : (x : ℕ) (xs : List ℕ) → place_of x xs ≤ length xs
  place_at_most x [] = omega arith
  place_at_most x (y ∷ ys) = end_step (nat_eq x y) (place_of x ys) (length ys) (place_at_most x ys)

  -- and one that doesn't is one more of them
  unlike_step : (x y : ℕ) (b c : Bool) → nat_eq x y ≡ b → (b || c) ≡ false → (b ≡ false) × (c ≡ false)
  unlike_step x y true c e h = absurd (let same = h in cc)
  unlike_step x y false c e h = (refl, h)

  unlike : (x : ℕ) (xs : List ℕ) → list_any (nat_eq x) xs ≡ false → AllByRecursion (λ y. nat_eq x y ≡ false) xs
  unlike x [] none = tt
  unlike x (y ∷ ys) none = let parts = unlike_step x y (nat_eq x y) (list_any (nat_eq x) ys) refl none in (parts.0, unlike x ys parts.1)

  place_below : (x : ℕ) (xs : List ℕ) → x < n → IsDistinct nat_eq xs → AllByRecursion (λ y. y < n) xs → place_of x xs < n
  unfolding IsDistinct
  place_below x xs small apart below = go (list_any (nat_eq x) xs) refl where
    go : (b : Bool) → list_any (nat_eq x) xs ≡ b → place_of x xs < n
    go true any = omega (arith, place_among x xs any, no_more xs apart below)
    go false none = omega (arith, place_at_most x xs, no_more (x ∷ xs) (unlike x xs none, apart) (small, below))

  all_below : (xs : List ℕ) → ((k : ℕ) → slice_index xs k < n) → AllByRecursion (λ x. x < n) xs
  all_below [] fits = tt
  all_below (x ∷ xs) fits = (fits 0, all_below xs (λ k. fits (suc k)))

  pub places_below : (xs : List ℕ) → ((k : ℕ) → slice_index xs k < n) → (x : ℕ) → x < n → place_of x (distinct nat_eq xs) < n
  places_below xs fits x small = place_below x (distinct nat_eq xs) small (distinct_apart xs) (distinct_below xs (all_below xs fits))
