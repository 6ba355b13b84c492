-- Flags of positions: what is left beside them, and what may be picked of it.
use Rattle.std.proofs.Common.{◌≡◌, ℕ, zero, suc, ◌+◌, ◌<◌, Bool, true, false, cond, nat_eq, List, [], ◌∷◌, length, get_or, set, replicate, refl, sym, ap, ◌∙◌, subst, arith}
use Rattle.std.specs.Prelude.{Some, slice_get}
use Rattle.std.specs.List.{list_any}
use Rattle.spec_terms.proofs.Replace.{some_same, some_none}
use Rattle.spec_terms.proofs.Decision.{true_false}
use Rattle.spec_clauses.specs.Inclusion.{Picks, here, there}
use Rattle.spec_clauses.specs.Subsumption.{others}
use Rattle.spec_placements.specs.Takes.{left}

-- no flag is set among these
pub unflagged : (n p : ℕ) → get_or (replicate n false) p false ≡ false
unflagged zero p = refl
unflagged (suc n) zero = refl
unflagged (suc n) (suc p) = unflagged n p

-- a place of the list that isn't flagged, with what is left without it
pub record IsFreePlace {X : Type 0} (flags : List Bool) (xs : List X) (y : X) (rest : List X) : Type 0 where
  pub place : ℕ
  pub free : get_or flags place false ≡ false
  pub found : slice_get xs place ≡ Some y
  pub rest_left : rest ≡ left (set flags place true) xs

module _ {X : Type 0} where
  pub left-none : (n : ℕ) (xs : List X) → left (replicate n false) xs ≡ xs
  left-none zero xs = refl
  left-none (suc n) [] = refl
  left-none (suc n) (x ∷ xs) = ap (λ ys. x ∷ ys) (left-none n xs)

  -- what stands at a free position is picked out of what is left, by its flag
  pub pick_left : (flags : List Bool) (xs : List X) (p : ℕ) (y : X) → length flags ≡ length xs → get_or flags p false ≡ false → slice_get xs p ≡ Some y → Picks (left flags xs) y (left (set flags p true) xs)
  pick_left flags [] p y e free found = absurd (some_none (sym found))
  pick_left [] (x ∷ xs) p y e free found = absurd (omega arith)
  pick_left (true ∷ flags) (x ∷ xs) zero y e free found = absurd (true_false free)
  pick_left (false ∷ flags) (x ∷ xs) zero y e free found = subst (λ (z : X). Picks (x ∷ left flags xs) z (left flags xs)) (some_same found) here
  pick_left (true ∷ flags) (x ∷ xs) (suc p) y e free found = pick_left flags xs p y (omega arith) free found
  pick_left (false ∷ flags) (x ∷ xs) (suc p) y e free found = there (pick_left flags xs p y (omega arith) free found)

  -- and what is picked stands at a free position
  pub place_of_left : (flags : List Bool) (xs : List X) {y : X} {rest : List X} → length flags ≡ length xs → Picks (left flags xs) y rest → IsFreePlace flags xs y rest
  place_of_left [] [] e p = elim p [ ]
  place_of_left (b ∷ flags) [] e p = absurd (omega arith)
  place_of_left [] (x ∷ xs) e p = absurd (omega arith)
  place_of_left (true ∷ flags) (x ∷ xs) e p =
      let at = place_of_left flags xs (omega arith) p in
      record { place = suc at.place; free = at.free; found = at.found; rest_left = at.rest_left }
  place_of_left (false ∷ flags) (x ∷ xs) e here = record { place = 0; free = refl; found = refl; rest_left = refl }
  place_of_left (false ∷ flags) (x ∷ xs) e (there p) =
      let at = place_of_left flags xs (omega arith) p in
      record { place = suc at.place; free = at.free; found = at.found; rest_left = ap (λ ys. x ∷ ys) at.rest_left }

  -- flags that are set exactly at the positions of a row, which count from k, leave what the row does
  pub left_others : (flags : List Bool) (row : List ℕ) (k : ℕ) (xs : List X) → length flags ≡ length xs → ((i : ℕ) → i < length xs → get_or flags i false ≡ list_any (nat_eq (k + i)) row) → left flags xs ≡ others row k xs
  left_others [] row k [] e marks = refl
  left_others (b ∷ flags) row k [] e marks = refl
  left_others [] row k (x ∷ xs) e marks = absurd (omega arith)
  left_others (b ∷ flags) row k (x ∷ xs) e marks =
      let at_k : k + 0 ≡ k = omega arith in
      let first : b ≡ list_any (nat_eq k) row = marks 0 (omega arith) ∙ ap (λ n. list_any (nat_eq n) row) at_k in
      let later = left_others flags row (k + 1) xs (omega arith) (λ i l. let same : k + suc i ≡ k + 1 + i = omega arith in marks (suc i) (omega arith) ∙ ap (λ n. list_any (nat_eq n) row) same) in
      go b first later where
        go : (c : Bool) → c ≡ list_any (nat_eq k) row → left flags xs ≡ others row (k + 1) xs → left (c ∷ flags) (x ∷ xs) ≡ cond (list_any (nat_eq k) row) (others row (k + 1) xs) (x ∷ others row (k + 1) xs)
        go true e same = rw (← e) same
        go false e same = rw (← e) (ap (λ ys. x ∷ ys) same)
