-- A numeral is what is printed of a number.
use Rattle.std.proofs.Common.{◌≡◌, ℕ, zero, suc, ◌<◌, ◌≤◌, ◌^◌, Bool, true, false, List, [], ◌∷◌, length, get_or, map, refl, sym, ap, subst, arith, Option, Some, None, ◌↔◌}
use Rattle.std.specs.List.{AllByRecursion}
use Rattle.std.specs.Fmt.{decimal}
use Rattle.std.specs.Str.{all_ascii_digits}
use Rattle.std.specs.Str.Parse.{digits_value}
use Rattle.std.proofs.lemmas.Fmt.{digits_decimal, digits_value-decimal, decimal_nonempty, first_decimal, decimal_digit, decimal-digits_value, length-decimal-le}
use Rattle.std.proofs.lemmas.Str.Parse.{IsNumeralModel, numerals_by_value, tells_all_ascii_digits}
use Rattle.std.proofs.lemmas.Int.Digits.{digits_value-lt}
use Rattle.std.proofs.lemmas.Bool.Decides.{nat_tests}
use Rattle.std.proofs.Math.Nat.{pow-le-pow_right}
use Rattle.spec_run_text.specs.Spelling.{IsSmall}
use Rattle.spec_run_text.specs.Laws.{IsNumeral}
use Rattle.spec_run_text.specs.Reading.{is_numeral, numeral, numerals}

digits_model : IsNumeralModel (λ text. all_ascii_digits text ≡ true) (digits_value 10)
digits_model = numerals_by_value _ tells_all_ascii_digits

from_is_numeral : (digits : List ℕ) → is_numeral digits ≡ true → IsNumeral digits (digits_value 10 digits)
from_is_numeral digits h = record {
  all_digits = grind (arith, nat_tests);
  some = grind (arith, nat_tests);
  few = grind (arith, nat_tests);
  no_leading_zero = λ zero_first. grind (arith, nat_tests);
  value = refl;
}

to_is_numeral : (digits : List ℕ) (n : ℕ) → IsNumeral digits n → is_numeral digits ≡ true
to_is_numeral digits n h = grind (arith, nat_tests)

-- a numeral is small, and what is printed of its number
pub numeral_is_decimal : (digits : List ℕ) (n : ℕ) → IsNumeral digits n → (digits ≡ decimal n) × IsSmall n
numeral_is_decimal digits n h =
    let all = IsNumeralModel.to digits_model digits h.all_digits in
    let below = digits_value-lt 10 digits all in
    let bound : 10 ^ length digits ≤ 10 ^ 9 = pow-le-pow_right {n = 10} (omega arith) h.few in
    let small : digits_value 10 digits < 1000000000 = omega (arith, below, bound) in
    let printed = decimal-digits_value digits_model digits h.all_digits h.some h.no_leading_zero (omega (arith, small)) in
    subst (λ m. (digits ≡ decimal m) × IsSmall m) h.value (sym printed, small)

zero_alone : (n : ℕ) → IsSmall n → get_or (decimal n) 0 0 ≡ 48 → length (decimal n) ≡ 1
zero_alone zero small first = ap length (decimal_digit 0 (omega arith))
zero_alone (suc n) small first = absurd (omega (arith, first_decimal (suc n) (omega arith) (omega arith)))

pub decimal_is_numeral : (n : ℕ) → IsSmall n → IsNumeral (decimal n) n
decimal_is_numeral n small = record {
  all_digits = digits_decimal digits_model n (omega arith);
  some = decimal_nonempty n (omega arith);
  few = length-decimal-le 9 n (omega arith) (omega arith) (omega arith);
  no_leading_zero = zero_alone n small;
  value = digits_value-decimal digits_model n (omega arith);
}

-- a field is the number that it is printed of, and that is small
pub numeral_some : (digits : List ℕ) (n : ℕ) → numeral digits ≡ Some n → (digits ≡ decimal n) × IsSmall n
numeral_some digits n e = by (is_numeral digits) refl
  where
    by : (b : Bool) → is_numeral digits ≡ b → (digits ≡ decimal n) × IsSmall n
    by true passes =
        let is = numeral_is_decimal digits _ (from_is_numeral digits passes) in
        let value : digits_value 10 digits ≡ n = grind arith in
        subst (λ m. (digits ≡ decimal m) × IsSmall m) value is
    by false fails = absurd (grind arith)

-- and what is printed of a small number is a field of it
pub numeral-decimal : (n : ℕ) → IsSmall n → numeral (decimal n) ≡ Some n
numeral-decimal n small =
    let passes = to_is_numeral (decimal n) n (decimal_is_numeral n small) in
    rw (passes, digits_value-decimal digits_model n (omega arith))

-- fields are all the numbers that they are printed of
pub numerals_some : (fields : List (List ℕ)) (ns : List ℕ) → numerals fields ≡ Some ns → (fields ≡ map decimal ns) × AllByRecursion IsSmall ns
numerals_some [] ns e =
    let none : [] ≡ ns = cc in
    subst (λ ms. ([] ≡ map decimal ms) × AllByRecursion IsSmall ms) none (refl, tt)
numerals_some (field ∷ fields) ns e = by (numeral field) (numerals fields) refl refl (numerals_some fields)
  where
    by : (first : Option ℕ) (later : Option (List ℕ)) → numeral field ≡ first → numerals fields ≡ later → ((ms : List ℕ) → numerals fields ≡ Some ms → (fields ≡ map decimal ms) × AllByRecursion IsSmall ms) → (field ∷ fields ≡ map decimal ns) × AllByRecursion IsSmall ns
    by None later p q rest = absurd (grind arith)
    by (Some n) None p q rest = absurd (grind arith)
    by (Some n) (Some ms) p q rest =
        let one = numeral_some field n p in
        let more = rest ms q in
        let all : n ∷ ms ≡ ns = grind arith in
        subst (λ ks. (field ∷ fields ≡ map decimal ks) × AllByRecursion IsSmall ks) all ((λ i. one.0 i ∷ more.0 i), (one.1, more.1))

pub numerals-decimal : (ns : List ℕ) → AllByRecursion IsSmall ns → numerals (map decimal ns) ≡ Some ns
numerals-decimal [] small = refl
numerals-decimal (n ∷ ns) small = rw (numeral-decimal n small.0, numerals-decimal ns small.1)

pub numerals_are_decimal : (digits : List ℕ) (n : ℕ) → ((digits ≡ decimal n) × IsSmall n) ↔ IsNumeral digits n
numerals_are_decimal digits n = (λ (e, small). subst (λ ds. IsNumeral ds n) (sym e) (decimal_is_numeral n small), numeral_is_decimal digits n)
