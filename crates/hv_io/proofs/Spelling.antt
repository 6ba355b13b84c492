-- What std prints of a number are its decimal digits.
use Rattle.std.proofs.Common.{◌≡◌, ℕ, ◌<◌, ◌^◌, zero, suc, true, ap, arith, rules, get_or, length}
use Rattle.std.proofs.lemmas.Fmt.{digits_decimal, digits_value-decimal, decimal_nonempty, first_decimal, decimal_digit}
use Rattle.std.proofs.lemmas.Str.Parse.{IsNumeralModel, numerals_by_value}
use Rattle.std.specs.Fmt.{decimal}
use Rattle.std.specs.Str.{all_ascii_digits}
use Rattle.std.specs.Str.Parse.{digits_value}
use Rattle.hv_io.specs.Decimal.{IsDecimal}

digits_model : IsNumeralModel (λ text. all_ascii_digits text ≡ true) (digits_value 10)
digits_model = numerals_by_value _ (search rules)

zero_alone : (number : ℕ) → number < 2 ^ 64 → get_or (decimal number) 0 0 ≡ 48 → length (decimal number) ≡ 1
zero_alone zero small first = ap length (decimal_digit 0 (omega arith))
zero_alone (suc n) small first = absurd (omega (arith, first_decimal (suc n) (omega arith) small))

-- what is printed of a number of 64 bits spells it
pub IsDecimal-decimal : (number : ℕ) → number < 2 ^ 64 → IsDecimal number (decimal number)
IsDecimal-decimal number small = record {
  digits = digits_decimal digits_model number small;
  some = decimal_nonempty number small;
  no_leading_zero = zero_alone number small;
  value = digits_value-decimal digits_model number small;
}
