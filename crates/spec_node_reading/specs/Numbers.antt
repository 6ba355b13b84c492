-- Numbers that stand in bytes.
use Rattle.std.specs.Prelude.{◌≡◌, ℕ, List}
use Rattle.std.specs.Char.{is_ascii_digit}
use Rattle.std.specs.Fmt.{decimal}
use Rattle.spec_certificate_text.specs.OfProtocol.{IsShort}
use Rattle.spec_first_faults.specs.Kinds.{IsRun}

-- the bytes are the digits of the number, all that stand there, and then the rest
pub record IsNumberThere (bytes : List ℕ) (number : ℕ) (rest : List ℕ) : Type 0 where
  pub digits : IsRun is_ascii_digit is_ascii_digit bytes rest
  pub short : IsShort number
  pub is : digits.run ≡ decimal number
