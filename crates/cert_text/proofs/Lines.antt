-- Lines that begin with a letter, of which some are read already.
use Rattle.std.proofs.Common.{◌≡◌, ◌≢◌, ℕ, zero, suc, ◌+◌, ◌-◌, ◌<◌, ◌≤◌, ◌==◌, if◌then◌else◌, true, false, List, [], ◌∷◌, ◌++◌, length, map, drop, refl, sym, ap, subst, ◌∙◌, arith, length-drop}
use Rattle.std.proofs.lemmas.Bool.Decides.{nat_tests}
use Rattle.std.proofs.lemmas.List.{map-append}
use Rattle.spec_certificate_text.specs.Terms as terms
use Rattle.spec_certificate_text.specs.Outcomes.{Outcome, Found, Faulty, next, Reader, front, lines_from}
use Rattle.fact_reader.specs.declared.error.CertError.{CertError}
use Rattle.fact_reader.specs.Gives.{HasFault}
use Rattle.fact_reader.proofs.Things.{next_fault}

-- these lines are read, and reading of at most so many more goes on with the rest
pub record AreRead {A : Type 0} (letter : ℕ) (one : Reader A) (whole : Outcome (List A)) (most : ℕ) (rest : List ℕ) (place : ℕ) (xs : List A) : Type 0 where
  pub read : lines_from letter one most xs rest place ≡ whole

abbrev behind_line : {A : Type 0} → ℕ → Reader A → ℕ → List A → A → ℕ → List ℕ → Outcome (List A)
behind_line letter one most xs x place rest = lines_from letter one most (xs ++ x ∷ []) rest place

line_more : {A : Type 0} (letter : ℕ) (one : Reader A) (most : ℕ) (xs : List A) (bytes : List ℕ) (at : ℕ)
    → lines_from letter one (suc most) xs bytes at ≡ (if front bytes == letter then next (one bytes at) (behind_line letter one most xs) else Found xs at bytes)
unfolding lines_from
line_more letter one most xs bytes at = refl

line_full : {A : Type 0} (letter : ℕ) (one : Reader A) (xs : List A) (bytes : List ℕ) (at : ℕ) → lines_from letter one 0 xs bytes at ≡ (if front bytes == letter then Faulty at terms.Count else Found xs at bytes)
unfolding lines_from
line_full letter one xs bytes at = refl

is_letter : (a b c : ℕ) → c ≡ a → c ≡ b → (a == b) ≡ true
is_letter a b c e f = grind (arith, nat_tests)

is_other : (a b c : ℕ) → c ≡ a → c ≢ b → (a == b) ≡ false
is_other a b c e f = grind (arith, nat_tests)

-- from the first line on
pub lines_start : {A : Type 0} (letter : ℕ) (one : Reader A) (most : ℕ) (rest : List ℕ) (place : ℕ) (xs : List A) → xs ≡ [] → AreRead letter one (lines_from letter one most [] rest place) (most - 0) rest place xs
lines_start {A} letter one most rest place xs none =
    let all : most - 0 ≡ most = omega arith in
    subst (λ (ys : List A). AreRead letter one (lines_from letter one most [] rest place) (most - 0) rest place ys) (sym none)
    record { read = ap (λ n. lines_from letter one n [] rest place) all }

-- from the first line on, of no more lines than bytes
pub rows_start : {A : Type 0} (letter : ℕ) (one : Reader A) (bytes : List ℕ) (at : ℕ) (xs : List A) → xs ≡ [] → AreRead letter one (lines_from letter one (length (drop at bytes)) [] (drop at bytes) at) (length bytes - at) (drop at bytes) at xs
rows_start {A} letter one bytes at xs none =
    subst (λ (ys : List A). AreRead letter one (lines_from letter one (length (drop at bytes)) [] (drop at bytes) at) (length bytes - at) (drop at bytes) at ys) (sym none)
    record { read = ap (λ n. lines_from letter one n [] (drop at bytes) at) (sym (length-drop at bytes)) }

one_line : {A : Type 0} (letter : ℕ) (one : Reader A) (whole : Outcome (List A)) (most round : ℕ) (rest : List ℕ) (place : ℕ) (xs : List A) (b : ℕ) → AreRead letter one whole (most - round) rest place xs → round < most
    → b ≡ front rest → b ≡ letter → whole ≡ next (one rest place) (behind_line letter one (most - (round + 1)) xs)
one_line letter one whole most round rest place xs b going more is begins =
    let left : most - round ≡ suc (most - (round + 1)) = omega arith in
    sym going.read ∙ (ap (λ n. lines_from letter one n xs rest place) left
    ∙ (line_more letter one (most - (round + 1)) xs rest place
    ∙ ap (λ t. if t then next (one rest place) (behind_line letter one (most - (round + 1)) xs) else Found xs place rest) (is_letter (front rest) letter b is begins)))

pub lines_on : {A : Type 0} (letter : ℕ) (one : Reader A) (whole : Outcome (List A)) (most round : ℕ) (rest : List ℕ) (place : ℕ) (xs : List A) (b : ℕ) (behind : List ℕ) (at : ℕ) (ys : List A) (x : A) → ys ≡ xs ++ x ∷ [] → AreRead letter one whole (most - round) rest place xs → round < most
    → b ≡ front rest → b ≡ letter → one rest place ≡ Found x at behind → AreRead letter one whole (most - (round + 1)) behind at ys
lines_on {A} letter one whole most round rest place xs b behind at ys x is going more byte begins found =
    subst (λ (zs : List A). AreRead letter one whole (most - (round + 1)) behind at zs) (sym is)
    record { read = sym (one_line letter one whole most round rest place xs b going more byte begins ∙ ap (λ o. next o (behind_line letter one (most - (round + 1)) xs)) found) }

-- the same of lines that are seen as others
pub viewed_on : {T A : Type 0} (f : T → A) (letter : ℕ) (one : Reader A) (whole : Outcome (List A)) (most round : ℕ) (rest : List ℕ) (place : ℕ) (ts : List T) (b : ℕ) (behind : List ℕ) (at : ℕ) (us : List T) (t : T) → us ≡ ts ++ t ∷ [] → AreRead letter one whole (most - round) rest place (map f ts) → round < most
    → b ≡ front rest → b ≡ letter → one rest place ≡ Found (f t) at behind → AreRead letter one whole (most - (round + 1)) behind at (map f us)
viewed_on f letter one whole most round rest place ts b behind at us t is going more byte begins found =
    lines_on letter one whole most round rest place (map f ts) b behind at (map f us) (f t) (ap (map f) is ∙ map-append f ts (t ∷ [])) going more byte begins found

pub lines_fault : {A : Type 0} (letter : ℕ) (one : Reader A) (whole : Outcome (List A)) (most round : ℕ) (rest : List ℕ) (place : ℕ) (xs : List A) (b : ℕ) (e : CertError) → AreRead letter one whole (most - round) rest place xs → round < most
    → b ≡ front rest → b ≡ letter → HasFault e (one rest place) → HasFault e whole
lines_fault {A} letter one whole most round rest place xs b e going more byte begins fault =
    subst (λ (o : Outcome (List A)). HasFault e o) (sym (one_line letter one whole most round rest place xs b going more byte begins))
    (next_fault {B = List A} e (one rest place) (behind_line letter one (most - (round + 1)) xs) fault)

pub lines_end : {A : Type 0} (letter : ℕ) (one : Reader A) (whole : Outcome (List A)) (most : ℕ) (rest : List ℕ) (place : ℕ) (xs : List A) (b : ℕ) → AreRead letter one whole most rest place xs
    → b ≡ front rest → b ≢ letter → whole ≡ Found xs place rest
lines_end {A} letter one whole most rest place xs b going byte other = sym going.read ∙ by most
  where
    by : (n : ℕ) → lines_from letter one n xs rest place ≡ Found xs place rest
    by zero = line_full letter one xs rest place ∙ ap (λ t. if t then Faulty place terms.Count else Found xs place rest) (is_other (front rest) letter b byte other)
    by (suc m) = line_more letter one m xs rest place ∙ ap (λ t. if t then next (one rest place) (behind_line letter one m xs) else Found xs place rest) (is_other (front rest) letter b byte other)

pub lines_over : {A : Type 0} (letter : ℕ) (one : Reader A) (whole : Outcome (List A)) (most round : ℕ) (rest : List ℕ) (place : ℕ) (xs : List A) (b : ℕ) → AreRead letter one whole (most - round) rest place xs → most ≤ round
    → b ≡ front rest → b ≡ letter → whole ≡ Faulty place terms.Count
lines_over letter one whole most round rest place xs b going past byte begins =
    let none : most - round ≡ 0 = omega arith in
    sym going.read ∙ (ap (λ n. lines_from letter one n xs rest place) none
    ∙ (line_full letter one xs rest place ∙ ap (λ t. if t then Faulty place terms.Count else Found xs place rest) (is_letter (front rest) letter b byte begins)))

pub ruleset lines = (lines_start, rows_start)
