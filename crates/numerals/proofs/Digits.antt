-- Rows of digits.
use Rattle.std.proofs.Common.{◌≡◌, ℕ, zero, suc, ◌+◌, ◌-◌, ◌*◌, ◌^◌, ◌<◌, ◌≤◌, true, List, [], ◌∷◌, length, take, get_or, refl, ap, arith}
use Rattle.std.proofs.Math.Nat.{pow-le-pow_right}
use Rattle.std.proofs.lemmas.Bool.Decides.{nat_tests}
use Rattle.std.proofs.lemmas.Int.Digits.{digits_value-lt, digits_value_more}
use Rattle.std.proofs.lemmas.List.{length-take}
use Rattle.std.proofs.lemmas.Str.{digit_value_digit}
use Rattle.std.proofs.lemmas.Str.Parse.{IsNumeralModel, numerals_by_value, tells_all_ascii_digits}
use Rattle.std.specs.Int.{IsInRange}
use Rattle.std.specs.Str.Parse.{digits_value}
use Rattle.std.specs.Prelude.{◌&&◌}
use Rattle.std.specs.List.{list_all}
use Rattle.std.specs.Char.{is_ascii_digit}
use Rattle.std.specs.Str.{all_ascii_digits}

pub all_digits_is : (digits : List ℕ) → all_ascii_digits digits ≡ list_all is_ascii_digit digits
all_digits_is [] = refl
all_digits_is (d ∷ ds) = ap (λ b. is_ascii_digit d && b) (all_digits_is ds)

pub digit_at : (ds : List ℕ) (i : ℕ) → all_ascii_digits ds ≡ true → i < length ds → IsInRange 48 57 (get_or ds i 0)
digit_at [] i all within = absurd (omega arith)
digit_at (d ∷ ds) zero all within = let here : is_ascii_digit d ≡ true = grind (arith, nat_tests) in grind (arith, nat_tests)
digit_at (d ∷ ds) (suc i) all within = let later : all_ascii_digits ds ≡ true = grind (arith, nat_tests) in digit_at ds i later (omega arith)

digits-take : (ds : List ℕ) (i : ℕ) → all_ascii_digits ds ≡ true → all_ascii_digits (take i ds) ≡ true
digits-take [] zero all = refl
digits-take [] (suc i) all = refl
digits-take (d ∷ ds) zero all = refl
digits-take (d ∷ ds) (suc i) all =
    let here : is_ascii_digit d ≡ true = grind (arith, nat_tests) in
    let later : all_ascii_digits ds ≡ true = grind (arith, nat_tests) in
    rw (here, digits-take ds i later) refl

-- eight digits spell a number below ten to the power of eight
pub front_is_small : (ds : List ℕ) (i : ℕ) → all_ascii_digits ds ≡ true → i < 9 → digits_value 10 (take i ds) < 100000000
front_is_small ds i all few =
    let below = digits_value-lt 10 (take i ds) (IsNumeralModel.to (numerals_by_value _ tells_all_ascii_digits) (take i ds) (digits-take ds i all)) in
    let short : length (take i ds) ≤ 8 = omega (arith, length-take i ds) in
    let bound : 10 ^ length (take i ds) ≤ 10 ^ 8 = pow-le-pow_right {n = 10} (omega arith) short in
    omega (arith, below, bound)

-- one more digit
pub value_more : (ds : List ℕ) (i : ℕ) → all_ascii_digits ds ≡ true → i < length ds → digits_value 10 (take i ds) * 10 + (get_or ds i 0 - 48) ≡ digits_value 10 (take (i + 1) ds)
value_more ds i all within =
    let digit = digit_at ds i all within in
    omega (arith, digits_value_more 10 ds i within, digit_value_digit (get_or ds i 0) digit)
