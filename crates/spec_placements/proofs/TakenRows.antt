-- Rows that take facts from free positions, beside rows that hold.
use Rattle.std.proofs.Common.{◌≡◌, ℕ, suc, ◌+◌, ◌<◌, Bool, true, false, not, ◌||◌, nat_eq, List, [], ◌∷◌, map, length, get_or, set, replicate, refl, subst, sym, ap, ◌∙◌, arith, length-set, get_or-set_same, get_or-set_other, eq-eqb, ne_eqb, eqb-true}
use Rattle.std.specs.Prelude.{Option, Some, slice_get}
use Rattle.std.specs.List.{AllByRecursion, list_any}
use Rattle.std.proofs.Math.ListN.{length-replicate}
use Rattle.std.proofs.lemmas.Option.{slice_get_within}
use Rattle.std.proofs.lemmas.Simd.{map-map}
use Rattle.spec_trees.proofs.Equality.{and_true}
use Rattle.spec_terms.specs.Term.{Term}
use Rattle.spec_terms.proofs.Decision.{true_false}
use Rattle.spec_clauses.specs.Fact.{Fact}
use Rattle.spec_clauses.specs.Inclusion.{IsWithin}
use Rattle.spec_clauses.specs.Subsumption.{are_distinct, others, hypothesis_at}
use Rattle.spec_clauses.proofs.Rows.{TakesAll}
use Rattle.spec_placements.specs.Takes.{left, Takes}
use Rattle.spec_placements.proofs.Flags.{unflagged, left_others}

-- the flags with those of a row set
abbrev pub flagged : List Bool → List ℕ → List Bool
flagged flags [] = flags
flagged flags (p ∷ row) = flagged (set flags p true) row

pub length-flagged : (flags : List Bool) (row : List ℕ) → length (flagged flags row) ≡ length flags
length-flagged flags [] = refl
length-flagged flags (p ∷ row) = length-flagged (set flags p true) row ∙ length-set flags p true

-- a position is flagged by itself, and others are not
pub free_later : (flags : List Bool) (p q : ℕ) → p < length flags → get_or (set flags p true) q false ≡ false → (nat_eq p q ≡ false) × (get_or flags q false ≡ false)
free_later flags p q l free = go (nat_eq p q) refl where
  go : (b : Bool) → nat_eq p q ≡ b → (b ≡ false) × (get_or flags q false ≡ false)
  go true e = let same : p ≡ q = eqb-true p q e in absurd (true_false (sym (get_or-set_same flags p true false l) ∙ (ap (λ n. get_or (set flags p true) n false) same ∙ free)))
  go false e = (refl, sym (get_or-set_other flags p q true false (λ same. true_false (sym (eq-eqb p q (sym same)) ∙ e))) ∙ free)

pub free_before : (flags : List Bool) (p q : ℕ) → nat_eq p q ≡ false → get_or flags q false ≡ false → get_or (set flags p true) q false ≡ false
free_before flags p q e free = get_or-set_other flags p q true false (λ same. true_false (sym (eq-eqb p q (sym same)) ∙ e)) ∙ free

-- the positions of a row are free
abbrev AreFree : List Bool → List ℕ → Type 0
AreFree flags row = AllByRecursion (λ q. get_or flags q false ≡ false) row

free_all_later : (flags : List Bool) (p : ℕ) (row : List ℕ) → p < length flags → AreFree (set flags p true) row → (list_any (nat_eq (suc p)) (map suc row) ≡ false) × AreFree flags row
free_all_later flags p [] l free = (refl, tt)
free_all_later flags p (q ∷ row) l free =
    let first = free_later flags p q l free.0 in
    let others = free_all_later flags p row l free.1 in
    let apart : nat_eq (suc p) (suc q) ≡ false = ne_eqb (suc p) (suc q) (λ same. true_false (sym (eq-eqb p q (omega arith)) ∙ first.0)) in
    (rw (apart, others.0) refl, (first.1, others.1))

or_false : (a b : Bool) → (a || b) ≡ false → (a ≡ false) × (b ≡ false)
or_false true b e = absurd (true_false e)
or_false false b e = (refl, e)

free_all_before : (flags : List Bool) (p : ℕ) (row : List ℕ) → list_any (nat_eq (suc p)) (map suc row) ≡ false → AreFree flags row → AreFree (set flags p true) row
free_all_before flags p [] e free = tt
free_all_before flags p (q ∷ row) e free =
    let parts = or_false (nat_eq (suc p) (suc q)) (list_any (nat_eq (suc p)) (map suc row)) e in
    let apart : nat_eq p q ≡ false = ne_eqb p q (λ same. true_false (sym (eq-eqb (suc p) (suc q) (omega arith)) ∙ parts.0)) in
    (free_before flags p q apart free.0, free_all_before flags p row parts.1 free.1)

-- A row of free positions takes facts exactly where it is one of distinct positions that have them, and leaves the others.
pub record TakesApart (hs : List (Fact Term)) (flags : List Bool) (ys : List (Fact Term)) (row : List ℕ) (more : List (Fact Term)) : Type 0 where
  pub distinct : are_distinct (map suc row) ≡ true
  pub free : AreFree flags row
  pub firmly : map Some ys ≡ map (slice_get hs) row
  pub loosely : IsWithin more (left (flagged flags row) hs)

pub takes_apart : (hs : List (Fact Term)) (flags : List Bool) (ys : List (Fact Term)) (row : List ℕ) (more : List (Fact Term)) → length flags ≡ length hs → Takes hs flags ys row more → TakesApart hs flags ys row more
takes_apart hs flags [] [] more e t = record { distinct = refl; free = tt; firmly = refl; loosely = t }
takes_apart hs flags (y ∷ ys) (p ∷ row) more e t =
    let inside = slice_get_within hs p y t.1 in
    let long : length (set flags p true) ≡ length hs = length-set flags p true ∙ e in
    let a = takes_apart hs (set flags p true) ys row more long t.2 in
    let found : slice_get hs p ≡ Some y = t.1 in
    let firmly = a.firmly in
    let free = free_all_later flags p row (omega arith) a.free in
    record {
      distinct = rw (free.0, a.distinct) refl;
      free = (t.0, free.1);
      firmly = λ i. sym found i ∷ firmly i;
      loosely = a.loosely;
    }
takes_apart hs flags [] (p ∷ row) more e t = absurd t
takes_apart hs flags (y ∷ ys) [] more e t = absurd t

not_true : (b : Bool) → not b ≡ true → b ≡ false
not_true true e = cc
not_true false e = refl

pub apart_takes : (hs : List (Fact Term)) (flags : List Bool) (ys : List (Fact Term)) (row : List ℕ) (more : List (Fact Term)) → TakesApart hs flags ys row more → Takes hs flags ys row more
apart_takes hs flags [] [] more a = a.loosely
apart_takes hs flags [] (p ∷ row) more a = let clash = a.firmly in cc
apart_takes hs flags (y ∷ ys) [] more a = let clash = a.firmly in cc
apart_takes hs flags (y ∷ ys) (p ∷ row) more a =
    let rows : ◌≡◌ {A = List (Option (Fact Term))} (Some y ∷ map Some ys) (slice_get hs p ∷ map (slice_get hs) row) = a.firmly in
    let found : slice_get hs p ≡ Some y = cc in
    let firmly : map Some ys ≡ map (slice_get hs) row = cc in
    let distinct = and_true (not (list_any (nat_eq (suc p)) (map suc row))) (are_distinct (map suc row)) a.distinct in (
      a.free.0,
      found,
      apart_takes hs (set flags p true) ys row more (record {
        distinct = distinct.1;
        free = free_all_before flags p row (not_true (list_any (nat_eq (suc p)) (map suc row)) distinct.0) a.free.1;
        firmly = firmly;
        loosely = a.loosely;
      }),
    )

or_true : (a : Bool) → (a || true) ≡ true
or_true true = refl
or_true false = refl

-- the flags that a row sets
flagged_marks : (flags : List Bool) (row : List ℕ) (i : ℕ) → i < length flags → get_or (flagged flags row) i false ≡ (list_any (nat_eq (1 + i)) (map suc row) || get_or flags i false)
flagged_marks flags [] i l = refl
flagged_marks flags (p ∷ row) i l =
    let below = flagged_marks (set flags p true) row i (rw length-set l) in
    go (nat_eq (1 + i) (suc p)) refl below where
      rest : Bool
      rest = list_any (nat_eq (1 + i)) (map suc row)

      go : (b : Bool) → nat_eq (1 + i) (suc p) ≡ b → get_or (flagged (set flags p true) row) i false ≡ (rest || get_or (set flags p true) i false) → get_or (flagged (set flags p true) row) i false ≡ ((b || rest) || get_or flags i false)
      go true e below =
          let same : i ≡ p = let found = eqb-true (1 + i) (suc p) e in omega arith in
          let here : get_or (set flags p true) i false ≡ true = ap (λ n. get_or (set flags p true) n false) same ∙ get_or-set_same flags p true false (omega arith) in
          below ∙ (ap (λ b. rest || b) here ∙ or_true rest)
      go false e below = below ∙ ap (λ b. rest || b) (get_or-set_other flags p i true false (λ same. true_false (sym (eq-eqb (1 + i) (suc p) (omega arith)) ∙ e)))

or_false_right : (a : Bool) → (a || false) ≡ a
or_false_right true = refl
or_false_right false = refl

-- A row sets, where none was set, flags that leave what stands at no position of it.
pub left_flagged : {X : Type 0} (hs : List X) (row : List ℕ) → left (flagged (replicate (length hs) false) row) hs ≡ others (map suc row) 1 hs
left_flagged {X} hs row =
    let none = replicate (length hs) false in
    let long : length none ≡ length hs = length-replicate (length hs) false in
    left_others (flagged none row) (map suc row) 1 hs (length-flagged none row ∙ long) (λ i l.
    flagged_marks none row i (omega arith) ∙ (ap (λ b. list_any (nat_eq (1 + i)) (map suc row) || b) (unflagged (length hs) i) ∙ or_false_right (list_any (nat_eq (1 + i)) (map suc row))))

all_unflagged : (n : ℕ) (row : List ℕ) → AreFree (replicate n false) row
all_unflagged n [] = tt
all_unflagged n (p ∷ row) = (unflagged n p, all_unflagged n row)

-- So a row takes facts from all hypotheses exactly where it, counted from 1, does as a row of a clause.
pub takes_all : (hs ys : List (Fact Term)) (row : List ℕ) (more : List (Fact Term)) → Takes hs (replicate (length hs) false) ys row more → TakesAll hs ys more (map suc row)
takes_all hs ys row more t =
    let a = takes_apart hs (replicate (length hs) false) ys row more (length-replicate (length hs) false) t in
    record {
      distinct = a.distinct;
      firmly = a.firmly ∙ sym (map-map (hypothesis_at hs) suc row);
      loosely = subst (IsWithin more) (left_flagged hs row) a.loosely;
    }

pub all_takes : (hs ys : List (Fact Term)) (row : List ℕ) (more : List (Fact Term)) → TakesAll hs ys more (map suc row) → Takes hs (replicate (length hs) false) ys row more
all_takes hs ys row more a = apart_takes hs (replicate (length hs) false) ys row more (record {
  distinct = a.distinct;
  free = all_unflagged (length hs) row;
  firmly = a.firmly ∙ map-map (hypothesis_at hs) suc row;
  loosely = subst (IsWithin more) (sym (left_flagged hs row)) a.loosely;
})
