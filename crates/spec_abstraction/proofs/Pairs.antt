-- Two lists side by side: threads and their pasts.
use Rattle.std.proofs.Common.{◌≡◌, ℕ, zero, suc, Some, List, [], ◌∷◌, ◌++◌, map, subst}
use Rattle.std.specs.Prelude.{unwrap_or, slice_get, slice_set}
use Rattle.spec_calculus.specs.Points.{numbered, replaced}

-- the lists are as long as each other, and the relation holds at each place
abbrev pub SideBySide : {X Y : Type 0} → (X → Y → Type 0) → List X → List Y → Type 0
SideBySide R [] [] = Unit {0}
SideBySide R [] (y ∷ ys) = ⊥
SideBySide R (x ∷ xs) [] = ⊥
SideBySide R (x ∷ xs) (y ∷ ys) = R x y × SideBySide R xs ys

module _ {X Y : Type 0} where
  pub pairs_weaker : (R S : X → Y → Type 0) → ((x : X) (y : Y) → R x y → S x y) → (xs : List X) (ys : List Y) → SideBySide R xs ys → SideBySide S xs ys
  pairs_weaker R S h [] [] a = tt
  pairs_weaker R S h [] (y ∷ ys) a = a
  pairs_weaker R S h (x ∷ xs) [] a = a
  pairs_weaker R S h (x ∷ xs) (y ∷ ys) a = (h x y a.0, pairs_weaker R S h xs ys a.1)

  -- each item of the first list becomes another
  pub pairs_map : (R S : X → Y → Type 0) (f : X → X) → ((x : X) (y : Y) → R x y → S (f x) y) → (xs : List X) (ys : List Y) → SideBySide R xs ys → SideBySide S (map f xs) ys
  pairs_map R S f h [] [] a = tt
  pairs_map R S f h [] (y ∷ ys) a = a
  pairs_map R S f h (x ∷ xs) [] a = a
  pairs_map R S f h (x ∷ xs) (y ∷ ys) a = (h x y a.0, pairs_map R S f h xs ys a.1)

  module _ (R : X → Y → Type 0) where
    pub pairs_append : (xs : List X) (ys : List Y) (x : X) (y : Y) → SideBySide R xs ys → R x y → SideBySide R (xs ++ x ∷ []) (ys ++ y ∷ [])
    pairs_append [] [] x y a r = (r, tt)
    pairs_append [] (z ∷ ys) x y a r = absurd a
    pairs_append (w ∷ xs) [] x y a r = absurd a
    pairs_append (w ∷ xs) (z ∷ ys) x y a r = (a.0, pairs_append xs ys x y a.1 r)

    -- what stands beside an item
    pair_at : (xs : List X) (ys : List Y) (k : ℕ) (x : X) (d : Y) → SideBySide R xs ys → slice_get xs k ≡ Some x → R x (unwrap_or (slice_get ys k) d)
    pair_at [] ys k x d a e = cc
    pair_at (w ∷ xs) [] k x d a e = absurd a
    pair_at (w ∷ xs) (z ∷ ys) zero x d a e = let same : w ≡ x = cc in subst (λ v. R v z) same a.0
    pair_at (w ∷ xs) (z ∷ ys) (suc k) x d a e = pair_at xs ys k x d a.1 e

    pub numbered_pair : (xs : List X) (ys : List Y) (n : ℕ) (x : X) (d : Y) → SideBySide R xs ys → numbered xs n ≡ Some x → R x (unwrap_or (numbered ys n) d)
    numbered_pair xs ys zero x d a e = cc
    numbered_pair xs ys (suc k) x d a e = pair_at xs ys k x d a e

    -- an item is replaced, and what stands beside it or not
    set_left : (xs : List X) (ys : List Y) (k : ℕ) (x : X) (d : Y) → SideBySide R xs ys → R x (unwrap_or (slice_get ys k) d) → SideBySide R (slice_set xs k x) ys
    set_left [] [] k x d a r = tt
    set_left [] (z ∷ ys) k x d a r = absurd a
    set_left (w ∷ xs) [] k x d a r = absurd a
    set_left (w ∷ xs) (z ∷ ys) zero x d a r = (r, a.1)
    set_left (w ∷ xs) (z ∷ ys) (suc k) x d a r = (a.0, set_left xs ys k x d a.1 r)

    pub replaced_left : (xs : List X) (ys : List Y) (n : ℕ) (x : X) (d : Y) → SideBySide R xs ys → R x (unwrap_or (numbered ys n) d) → SideBySide R (replaced xs n x) ys
    replaced_left xs ys zero x d a r = a
    replaced_left xs ys (suc k) x d a r = set_left xs ys k x d a r

    set_both : (xs : List X) (ys : List Y) (k : ℕ) (x : X) (y : Y) → SideBySide R xs ys → R x y → SideBySide R (slice_set xs k x) (slice_set ys k y)
    set_both [] [] k x y a r = tt
    set_both [] (z ∷ ys) k x y a r = absurd a
    set_both (w ∷ xs) [] k x y a r = absurd a
    set_both (w ∷ xs) (z ∷ ys) zero x y a r = (r, a.1)
    set_both (w ∷ xs) (z ∷ ys) (suc k) x y a r = (a.0, set_both xs ys k x y a.1 r)

    pub replaced_both : (xs : List X) (ys : List Y) (n : ℕ) (x : X) (y : Y) → SideBySide R xs ys → R x y → SideBySide R (replaced xs n x) (replaced ys n y)
    replaced_both xs ys zero x y a r = a
    replaced_both xs ys (suc k) x y a r = set_both xs ys k x y a r
