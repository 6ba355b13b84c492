-- The kind of numbers.
use Rattle.std.specs.Prelude.{◌≢◌, ℕ, List}
use Rattle.std.specs.Char.{is_ascii_digit}
use Rattle.std.specs.Fmt.{decimal}
use Rattle.spec_certificate_text.specs.OfProtocol.{IsShort}
use Rattle.spec_certificate_text.specs.Terms.{Code, Number}
use Rattle.spec_certificate_faults.specs.First.{Kind}
use Rattle.spec_first_faults.specs.Kinds.{IsRun, runs, marked}

-- digits, one at least
abbrev pub digits : Kind
digits = runs is_ascii_digit is_ascii_digit

-- Number: they are not decimal without leading zero, of at most 9 digits
pub record IsNoNumber (bytes : List ℕ) : Type 0 where
  pub rest : List ℕ
  pub digits : IsRun is_ascii_digit is_ascii_digit bytes rest
  pub none : (n : ℕ) → IsShort n → digits.run ≢ decimal n

abbrev pub NumberFault : Code → List ℕ → Type 0
NumberFault Number bytes = IsNoNumber bytes
NumberFault code bytes = ⊥

abbrev pub numbers : Kind
numbers = marked digits NumberFault
