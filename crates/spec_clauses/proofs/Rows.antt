-- Rows of positions: what stands at them, and what is left.
use Rattle.std.proofs.Common.{◌≡◌, ℕ, zero, suc, ◌+◌, ◌<◌, Bool, true, false, not, cond, nat_eq, List, [], ◌∷◌, ◌++◌, map, refl, sym, ap, ◌∙◌, subst, arith, eq-eqb, ne_eqb}
use Rattle.std.specs.Prelude.{Option, Some, None, slice_get}
use Rattle.std.specs.List.{list_any}
use Rattle.spec_trees.proofs.Equality.{and_true}
use Rattle.spec_terms.specs.Term.{Term}
use Rattle.spec_terms.proofs.Replace.{some_same, some_none}
use Rattle.spec_clauses.specs.Fact.{Fact}
use Rattle.spec_clauses.specs.Inclusion.{Picks, here, there, IsWithin}
use Rattle.spec_clauses.specs.Subsumption.{hypothesis_at, are_distinct, others}
use Rattle.spec_clauses.proofs.Inclusion.{within-trans, within-exchange}

-- a position before the first item takes none away
others_past : {X : Type 0} (row : List ℕ) (p k : ℕ) (xs : List X) → p < k → others (p ∷ row) k xs ≡ others row k xs
others_past row p k [] l = refl
others_past row p k (x ∷ xs) l =
    let apart : nat_eq k p ≡ false = ne_eqb k p (λ e. omega arith) in
    let later = others_past row p (k + 1) xs (omega arith) in
    rw apart (λ i. cond (list_any (nat_eq k) row) (later i) (x ∷ later i))

-- no position takes nothing away
others_none : {X : Type 0} (k : ℕ) (xs : List X) → others [] k xs ≡ xs
others_none k [] = refl
others_none k (x ∷ xs) = ap (λ ys. x ∷ ys) (others_none (k + 1) xs)

module _ {X : Type 0} where
  -- the item at place p of those that begin at position k is picked by one more position, k + p
  pick_at : (row : List ℕ) (k p j : ℕ) (xs : List X) (y : X) → j ≡ k + p → slice_get xs p ≡ Some y → list_any (nat_eq j) row ≡ false → Picks (others row k xs) y (others (j ∷ row) k xs)
  pick_at row k p j [] y e h free = absurd (some_none (sym h))
  pick_at row k zero j (x ∷ xs) y e h free =
      let same : k ≡ j = omega arith in
      let found : x ≡ y = some_same h in
      let taken : nat_eq k j ≡ true = eq-eqb k j same in
      let not_taken : list_any (nat_eq k) row ≡ false = ap (λ n. list_any (nat_eq n) row) same ∙ free in
      rw (taken, not_taken, others_past row j (k + 1) xs (omega arith), found) here
  pick_at row k (suc p) j (x ∷ xs) y e h free =
      let apart : nat_eq k j ≡ false = ne_eqb k j (λ same. omega arith) in
      rw apart (go (list_any (nat_eq k) row) (pick_at row (k + 1) p j xs y (omega arith) h free)) where
        go : (b : Bool) → Picks (others row (k + 1) xs) y (others (j ∷ row) (k + 1) xs) → Picks (cond b (others row (k + 1) xs) (x ∷ others row (k + 1) xs)) y (cond b (others (j ∷ row) (k + 1) xs) (x ∷ others (j ∷ row) (k + 1) xs))
        go true q = q
        go false q = there q

  -- and what is picked stands at a position that is free
  record IsAt (row : List ℕ) (k : ℕ) (xs : List X) (y : X) (rest : List X) : Type 0 where
    place : ℕ
    found : slice_get xs place ≡ Some y
    free : list_any (nat_eq (k + place)) row ≡ false
    left : rest ≡ others ((k + place) ∷ row) k xs

  place_of_pick : (row : List ℕ) (k : ℕ) (xs : List X) {y : X} {rest : List X} → Picks (others row k xs) y rest → IsAt row k xs y rest
  place_of_pick row k [] p = elim p [ ]
  place_of_pick row k (x ∷ xs) {y} {rest} p = go (λ z left q. place_of_pick row (k + 1) xs q) (list_any (nat_eq k) row) refl p where
    -- a place further on, where the first item is kept or not
    later : {y : X} {rest : List X} (b : Bool) → list_any (nat_eq k) row ≡ b → IsAt row (k + 1) xs y rest → IsAt row k (x ∷ xs) y (cond b rest (x ∷ rest))
    later {y} {rest} b e at =
        let same : k + 1 + at.place ≡ k + suc at.place = omega arith in
        let apart : nat_eq k (k + suc at.place) ≡ false = ne_eqb k (k + suc at.place) (λ e. omega arith) in
        let left : rest ≡ others ((k + suc at.place) ∷ row) (k + 1) xs = at.left ∙ ap (λ n. others (n ∷ row) (k + 1) xs) same in
        record {
          place = suc at.place;
          found = at.found;
          free = ap (λ n. list_any (nat_eq n) row) (sym same) ∙ at.free;
          left = rw (apart, e) (λ i. cond b (left i) (x ∷ left i));
        }

    first : {y : X} {rest : List X} → list_any (nat_eq k) row ≡ false → Picks (x ∷ others row (k + 1) xs) y rest → ((y : X) (rest : List X) → Picks (others row (k + 1) xs) y rest → IsAt row (k + 1) xs y rest) → IsAt row k (x ∷ xs) y rest
    first e here below =
        let same : k + 0 ≡ k = omega arith in
        let left : others row (k + 1) xs ≡ others (k ∷ row) k (x ∷ xs) = rw (eq-eqb k k refl) (sym (others_past row k (k + 1) xs (omega arith))) in
        record {
          place = 0;
          found = refl;
          free = ap (λ n. list_any (nat_eq n) row) same ∙ e;
          left = left ∙ sym (ap (λ n. others (n ∷ row) k (x ∷ xs)) same);
        }
    first {y} e (there {rest = left} q) below = later false e (below y left q)

    go : ((y : X) (rest : List X) → Picks (others row (k + 1) xs) y rest → IsAt row (k + 1) xs y rest) → (b : Bool) → list_any (nat_eq k) row ≡ b → Picks (cond b (others row (k + 1) xs) (x ∷ others row (k + 1) xs)) y rest → IsAt row k (x ∷ xs) y rest
    go below true e q = later true e (below y rest q)
    go below false e q = first e q below

-- The row takes these facts from the hypotheses.
pub record TakesAll (hs ys zs : List (Fact Term)) (row : List ℕ) : Type 0 where
  pub distinct : are_distinct row ≡ true
  pub firmly : map Some ys ≡ map (hypothesis_at hs) row
  pub loosely : IsWithin zs (others row 1 hs)

free_of : (b : Bool) → not b ≡ true → b ≡ false
free_of true e = cc
free_of false e = refl

-- what stands at the positions of a row and elsewhere is included
pub takes_within : (hs ys zs : List (Fact Term)) (row : List ℕ) → TakesAll hs ys zs row → IsWithin (ys ++ zs) hs
takes_within hs [] zs [] t = let none_taken = others_none 1 hs in subst (λ (xs : List (Fact Term)). IsWithin zs xs) none_taken t.loosely
takes_within hs [] zs (p ∷ row) t = let clash = t.firmly in cc
takes_within hs (y ∷ ys) zs [] t = let clash = t.firmly in cc
takes_within hs (y ∷ ys) zs (zero ∷ row) t = let clash : ◌≡◌ {A = List (Option (Fact Term))} (Some y ∷ map Some ys) (None ∷ map (hypothesis_at hs) row) = t.firmly in cc
takes_within hs (y ∷ ys) zs (suc p ∷ row) t =
    let rows : ◌≡◌ {A = List (Option (Fact Term))} (Some y ∷ map Some ys) (slice_get hs p ∷ map (hypothesis_at hs) row) = t.firmly in
    let found : slice_get hs p ≡ Some y = cc in
    let others_found : map Some ys ≡ map (hypothesis_at hs) row = cc in
    let free = and_true (not (list_any (nat_eq (suc p)) row)) (are_distinct row) t.distinct in
    let picked = pick_at row 1 p (suc p) hs y (omega arith) found (free_of (list_any (nat_eq (suc p)) row) free.0) in
    let more = takes_within hs ys (y ∷ zs) row (record { distinct = free.1; firmly = others_found; loosely = (others (suc p ∷ row) 1 hs, picked, t.loosely) }) in
    within-trans (y ∷ (ys ++ zs)) (ys ++ (y ∷ zs)) hs (within-exchange (y ∷ []) ys zs) more

-- and what is included is taken by some row
pub within_takes : (hs ys zs : List (Fact Term)) → IsWithin (ys ++ zs) hs → (row : List ℕ) × TakesAll hs ys zs row
within_takes hs [] zs w = ([], record { distinct = refl; firmly = refl; loosely = rw (others_none 1 hs) w })
within_takes hs (y ∷ ys) zs w =
    let (row, t) = within_takes hs ys (y ∷ zs) (within-trans (ys ++ (y ∷ zs)) (y ∷ (ys ++ zs)) hs (within-exchange ys (y ∷ []) zs) w) in
    let at = place_of_pick row 1 hs t.loosely.1 in
    let same : 1 + at.place ≡ suc at.place = omega arith in
    let free = at.free in
    let found = at.found in
    let firmly = t.firmly in
    let distinct = t.distinct in (
      suc at.place ∷ row,
      record {
        distinct = rw (sym same) (rw (at.free, t.distinct) refl);
        firmly = λ i. sym at.found i ∷ t.firmly i;
        loosely = rw (sym same) (subst (λ (xs : List (Fact Term)). IsWithin zs xs) at.left t.loosely.2);
      },
    )
