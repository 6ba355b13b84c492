-- Names of variables.
use Rattle.std.proofs.Common.{◌≡◌, ℕ, ◌<◌, ◌≤◌, false, ◌==◌, ◌&&◌, List, [], ◌∷◌, length, drop, get_or, Some, refl, arith}
use Rattle.std.specs.Char.{is_ascii_digit}
use Rattle.std.specs.List.{list_all}
use Rattle.spec_protocol_scope.specs.Names.{is_variable}
use Rattle.spec_run_text.specs.Reading.{numeral}
use Rattle.spec_run_text.proofs.Numbers.{numeral_some}
use Rattle.spec_certificate_text.specs.Sides.{first_bound}

pub empty_behind : (word : List ℕ) → length word ≡ 0 → word ≡ drop 1 word
empty_behind [] e = refl
empty_behind (b ∷ word) e = absurd (omega (arith, e))

pub ruleset behind = (empty_behind)

pub short_word : (word : List ℕ) → length word < 2 → is_variable word ≡ false
short_word [] short = refl
short_word (b ∷ []) short = refl
short_word (b ∷ c ∷ word) short = absurd (omega (arith, short))

pub long_word : (word : List ℕ) → 2 ≤ length word → is_variable word ≡ ((get_or word 0 0 == 118) && list_all is_ascii_digit (drop 1 word))
long_word [] long = absurd (omega (arith, long))
long_word (b ∷ []) long = absurd (omega (arith, long))
long_word (b ∷ c ∷ word) long = refl

pub ruleset tested = (short_word, long_word)

-- digits that are a number are no more than the limit
pub short_bound : (digits : List ℕ) (n : ℕ) → numeral digits ≡ Some n → n < first_bound
short_bound digits n e = (numeral_some digits n e).1

pub ruleset bound = (short_bound)
