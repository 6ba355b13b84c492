-- Numbers in decimal digits.
use Rattle.std.specs.Prelude.{◌≡◌, ℕ, ◌<◌, true, List, length, slice_index}
use Rattle.std.specs.Str.{all_ascii_digits}
use Rattle.std.specs.Str.Parse.{digits_value}

-- the text has the number's digits, the greatest place first, and no zero stands before another digit
pub record IsDecimal (number : ℕ) (text : List ℕ) : Type 0 where
  pub digits : all_ascii_digits text ≡ true
  pub some : 0 < length text
  pub no_leading_zero : slice_index text 0 ≡ 48 → length text ≡ 1
  pub value : digits_value 10 text ≡ number
