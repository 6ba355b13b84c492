-- Tables of the numbers in a list, filled from its end on; and where numbers stand first.
use Rattle.std.proofs.Common.{◌≡◌, ℕ, zero, suc, ◌+◌, ◌-◌, ◌<◌, ◌≤◌, Bool, true, false, cond, nat_eq, nat_lt, ◌||◌, Option, Some, None, List, [], ◌∷◌, ◌++◌, length, take, drop, get_or, refl, ap, sym, ◌∙◌, add-one, drop-cons, drop_of_length-le, length-drop, eqb-true, eq-eqb, arith}
use Rattle.std.specs.List.{list_any}
use Rattle.std.specs.HashMap.{HashMap, get}
use Rattle.std.specs.Map.{lookup}
use Rattle.std.specs.declared.hash.BuildHasherDefault.{BuildHasherDefault}
use Rattle.std.specs.declared.hash.FoldHasher.{FoldHasher}
use Rattle.std.proofs.lemmas.List.{take_more}
use Rattle.std.proofs.lemmas.Bool.{false≢true, lt-ltb}
use Rattle.spec_clauses.specs.FirstPhase.{times}
use Rattle.spec_clauses.specs.Norm.{distinct, place_of}
use Rattle.unify_match.proofs.Tables.{eqb_flip}
use Rattle.clause_diffs.specs.Tables.{count_of}
use Rattle.clause_diffs.proofs.Counting.{distinct-push}

abbrev Numbers : Type 0
Numbers = HashMap ℕ ℕ (BuildHasherDefault FoldHasher)

-- what is left of numbers from the one at i on
from_on : (ys : List ℕ) (i d : ℕ) → i < length ys → drop i ys ≡ get_or ys i d ∷ drop (i + 1) ys
from_on ys i d within = drop-cons ys i d within ∙ ap (λ n. get_or ys i d ∷ drop n ys) (sym (add-one i))

place_step : (x y : ℕ) (i p : ℕ) (rest : List ℕ) (b : Bool) → nat_eq x y ≡ b → (b ≡ true → p ≡ i) → (b ≡ false → p ≡ (i + 1) + place_of x rest) → p ≡ i + place_of x (y ∷ rest)
place_step x y i p rest true e here later = let z : place_of x (y ∷ rest) ≡ 0 = ap (λ b. cond b 0 (suc (place_of x rest))) e in let q = here refl in omega arith
place_step x y i p rest false e here later = let z : place_of x (y ∷ rest) ≡ suc (place_of x rest) = ap (λ b. cond b 0 (suc (place_of x rest))) e in let q = later refl in omega arith

some_is : (p q : ℕ) → Some p ≡ Some q → q ≡ p
some_is p q e = cc

-- the number before i in front of those from i on
behind_one : (ys : List ℕ) (i : ℕ) → 0 < i → i ≤ length ys → drop (i - 1) ys ≡ get_or ys (i - 1) 0 ∷ drop i ys
behind_one ys i some within = let next : i - 1 + 1 ≡ i = omega arith in from_on ys (i - 1) 0 (omega arith) ∙ ap (λ n. get_or ys (i - 1) 0 ∷ drop n ys) next

pub places_on : (ys : List ℕ) (i : ℕ) (old new : Numbers) → 0 < i → i ≤ length ys → ((x p : ℕ) → get nat_eq old x ≡ Some p → p ≡ i + place_of x (drop i ys)) → ((x : ℕ) → get nat_eq new x ≡ cond (nat_eq (get_or ys (i - 1) 0) x) (Some (i - 1)) (get nat_eq old x))
    → (x p : ℕ) → get nat_eq new x ≡ Some p → p ≡ (i - 1) + place_of x (drop (i - 1) ys)
places_on ys i old new some within was put x p told =
    let y = get_or ys (i - 1) 0 in
    let stored : cond (nat_eq y x) (Some (i - 1)) (get nat_eq old x) ≡ Some p = sym (put x) ∙ told in
    let next : i - 1 + 1 ≡ i = omega arith in
    place_step x y (i - 1) p (drop i ys) (nat_eq x y) refl
    (λ e. some_is (i - 1) p (sym (ap (λ b. cond b (Some (i - 1)) (get nat_eq old x)) (eqb_flip y x ∙ e)) ∙ stored))
    (λ e. was x p (sym (ap (λ b. cond b (Some (i - 1)) (get nat_eq old x)) (eqb_flip y x ∙ e)) ∙ stored) ∙ ap (λ n. n + place_of x (drop i ys)) (sym next))
    ∙ ap (λ l. (i - 1) + place_of x l) (sym (behind_one ys i some within))

pub places_done : (ys : List ℕ) (i : ℕ) (table : Numbers) → i ≤ 0 → ((x p : ℕ) → get nat_eq table x ≡ Some p → p ≡ i + place_of x (drop i ys)) → (x p : ℕ) → get nat_eq table x ≡ Some p → p ≡ place_of x ys
places_done ys i table past was x p told = let none : i ≡ 0 = omega arith in omega (arith, was x p told ∙ ap (λ n. n + place_of x (drop n ys)) none)

pub no_places : (table : Numbers) (x p n : ℕ) → table.entries ≡ [] → get nat_eq table x ≡ Some p → p ≡ n
no_places table x p n empty told = absurd (let none : get nat_eq table x ≡ None = ap (lookup (nat_eq x)) empty in cc)

count_step : (x y i n : ℕ) (old : Option ℕ) (rest : List ℕ) (b : Bool) → nat_eq y x ≡ b → count_of old ≡ times x rest → n ≡ times y rest + 1 → count_of (cond b (Some n) old) ≡ cond b 1 0 + times x rest
count_step x y i n old rest true e was more = let same : y ≡ x = eqb-true y x e in omega (arith, more, ap (λ z. times z rest) same)
count_step x y i n old rest false e was more = omega (arith, was)

pub counts_on : (ys : List ℕ) (i n : ℕ) (old new : Numbers) → 0 < i → i ≤ length ys → ((x : ℕ) → count_of (get nat_eq old x) ≡ times x (drop i ys)) → n ≡ count_of (get nat_eq old (get_or ys (i - 1) 0)) + 1
    → ((x : ℕ) → get nat_eq new x ≡ cond (nat_eq (get_or ys (i - 1) 0) x) (Some n) (get nat_eq old x)) → (x : ℕ) → count_of (get nat_eq new x) ≡ times x (drop (i - 1) ys)
counts_on ys i n old new some within was more put x =
    let y = get_or ys (i - 1) 0 in
    ap count_of (put x)
    ∙ (count_step x y i n (get nat_eq old x) (drop i ys) (nat_eq y x) refl (was x) (more ∙ ap (λ k. k + 1) (was y))
    ∙ (ap (λ b. cond b 1 0 + times x (drop i ys)) (eqb_flip y x) ∙ ap (times x) (sym (behind_one ys i some within))))

pub counts_done : (ys : List ℕ) (i : ℕ) (table : Numbers) → i ≤ 0 → ((x : ℕ) → count_of (get nat_eq table x) ≡ times x (drop i ys)) → (x : ℕ) → count_of (get nat_eq table x) ≡ times x ys
counts_done ys i table past was x = let none : i ≡ 0 = omega arith in was x ∙ ap (λ n. times x (drop n ys)) none

pub no_counts : (ys : List ℕ) (i : ℕ) (table : Numbers) (x : ℕ) → length ys ≤ i → table.entries ≡ [] → count_of (get nat_eq table x) ≡ times x (drop i ys)
no_counts ys i table x past empty = ap count_of (ap (lookup (nat_eq x)) empty) ∙ sym (ap (times x) (drop_of_length-le ys past))

at_most_one : (b : Bool) → cond b 1 0 ≤ 1
at_most_one true = omega arith
at_most_one false = omega arith

times_at_most : (x : ℕ) (ys : List ℕ) → times x ys ≤ length ys
times_at_most x [] = omega arith
times_at_most x (y ∷ ys) = omega (arith, at_most_one (nat_eq x y), times_at_most x ys)

-- a count of the numbers from i on
pub count_fits : (ys : List ℕ) (i : ℕ) (table : Numbers) (x : ℕ) → i ≤ length ys → ((z : ℕ) → count_of (get nat_eq table z) ≡ times z (drop i ys)) → count_of (get nat_eq table x) + i ≤ length ys
count_fits ys i table x within was = omega (arith, was x, times_at_most x (drop i ys), length-drop i ys)

-- a number stands among those of which it is one or more
pub counted_any : (x : ℕ) (ys : List ℕ) → nat_lt 0 (times x ys) ≡ list_any (nat_eq x) ys
counted_any x [] = refl
counted_any x (y ∷ ys) = go (nat_eq x y) (counted_any x ys) where
  go : (b : Bool) → nat_lt 0 (times x ys) ≡ list_any (nat_eq x) ys → nat_lt 0 (cond b 1 0 + times x ys) ≡ (b || list_any (nat_eq x) ys)
  go true e = lt-ltb 0 (1 + times x ys) (omega arith)
  go false e = let same : 0 + times x ys ≡ times x ys = omega arith in ap (nat_lt 0) same ∙ e

-- before its first place a number doesn't stand, and before later ones it does
first_step : (y z j : ℕ) (zs : List ℕ) (b : Bool) → nat_eq y z ≡ b → cond b 0 (suc (place_of y zs)) ≡ suc j → (place_of y zs ≡ j → list_any (λ x. nat_eq x y) (take j zs) ≡ false) → list_any (λ x. nat_eq x y) (z ∷ take j zs) ≡ false
first_step y z j zs true e is ih = absurd (omega (arith, is))
first_step y z j zs false e is ih = let other : nat_eq z y ≡ false = eqb_flip z y ∙ e in let rest = ih (omega (arith, is)) in rw other rest

first_at : (y : ℕ) (xs : List ℕ) (i : ℕ) → i < length xs → place_of y xs ≡ i → list_any (λ x. nat_eq x y) (take i xs) ≡ false
first_at y [] i within is = absurd (omega arith)
first_at y (z ∷ zs) zero within is = refl
first_at y (z ∷ zs) (suc j) within is = first_step y z j zs (nat_eq y z) refl is (λ e. first_at y zs j (omega arith) e)

later_step : (y z j : ℕ) (zs : List ℕ) (b : Bool) → nat_eq y z ≡ b → (cond b 0 (suc (place_of y zs)) ≡ suc j → ⊥) → ((place_of y zs ≡ j → ⊥) → list_any (λ x. nat_eq x y) (take j zs) ≡ true) → list_any (λ x. nat_eq x y) (z ∷ take j zs) ≡ true
later_step y z j zs true e differ ih = let same : nat_eq z y ≡ true = eqb_flip z y ∙ e in rw same refl
later_step y z j zs false e differ ih = let other : nat_eq z y ≡ false = eqb_flip z y ∙ e in let rest = ih (λ p. differ (ap suc p)) in rw other rest

later_at : (y : ℕ) (xs : List ℕ) (i : ℕ) → i < length xs → y ≡ get_or xs i 0 → (place_of y xs ≡ i → ⊥) → list_any (λ x. nat_eq x y) (take i xs) ≡ true
later_at y [] i within is differ = absurd (omega arith)
later_at y (z ∷ zs) zero within is differ = absurd (differ (ap (λ b. cond b 0 (suc (place_of y zs))) (eq-eqb y z is)))
later_at y (z ∷ zs) (suc j) within is differ = later_step y z j zs (nat_eq y z) refl differ (λ d. later_at y zs j (omega arith) is d)

one_more : (xs : List ℕ) (i y : ℕ) (b : Bool) → i < length xs → y ≡ get_or xs i 0 → list_any (λ x. nat_eq x y) (take i xs) ≡ b → distinct nat_eq (take (i + 1) xs) ≡ cond b (distinct nat_eq (take i xs)) (distinct nat_eq (take i xs) ++ y ∷ [])
one_more xs i y b within is any =
    ap (distinct nat_eq) (take_more xs i 0 within ∙ ap (λ z. take i xs ++ z ∷ []) (sym is)) ∙ (distinct-push nat_eq (take i xs) y ∙ ap (λ t. cond t (distinct nat_eq (take i xs)) (distinct nat_eq (take i xs) ++ y ∷ [])) any)

-- one number more: at its first place it is added, at a later one it isn't
first_added : (xs : List ℕ) (i y : ℕ) (found new : List ℕ) → i < length xs → y ≡ get_or xs i 0 → found ≡ distinct nat_eq (take i xs) → place_of y xs ≡ i → new ≡ found ++ y ∷ [] → new ≡ distinct nat_eq (take (i + 1) xs)
first_added xs i y found new within is was first e = e ∙ (ap (λ l. l ++ y ∷ []) was ∙ sym (one_more xs i y false within is (first_at y xs i within first)))

later_left : (xs : List ℕ) (i y : ℕ) (found : List ℕ) → i < length xs → y ≡ get_or xs i 0 → found ≡ distinct nat_eq (take i xs) → (place_of y xs ≡ i → ⊥) → found ≡ distinct nat_eq (take (i + 1) xs)
later_left xs i y found within is was later = was ∙ sym (one_more xs i y true within is (later_at y xs i within is later))

pub added_or_left : (xs : List ℕ) (i y p : ℕ) (found new : List ℕ) → i < length xs → y ≡ get_or xs i 0 → found ≡ distinct nat_eq (take i xs) → place_of y xs ≡ p → new ≡ cond (nat_eq p i) (found ++ y ∷ []) found → new ≡ distinct nat_eq (take (i + 1) xs)
added_or_left xs i y p found new within is was placed_at e = go (nat_eq p i) refl where
  go : (b : Bool) → nat_eq p i ≡ b → new ≡ distinct nat_eq (take (i + 1) xs)
  go true f = first_added xs i y found new within is was (placed_at ∙ eqb-true p i f) (e ∙ ap (λ b. cond b (found ++ y ∷ []) found) f)
  go false f = e ∙ (ap (λ b. cond b (found ++ y ∷ []) found) f ∙ later_left xs i y found within is was (λ same. absurd (false≢true (sym f ∙ eq-eqb p i (sym placed_at ∙ same)))))
