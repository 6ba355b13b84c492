-- What errors say.
use Rattle.std.specs.Prelude.{ℕ, Option, Some, None}
use Rattle.pi_parser.specs.declared.error.Fault.{Fault}
use Rattle.pi_parser.specs.declared.error.Fault.TheVariants as fault
use Rattle.pi_parser.specs.declared.error.ParseError.{ParseError}
use Rattle.pi_parser.specs.declared.error.ParseError.TheVariants as error

-- why tokens are refused
pub data Refusal : Type 0 where
  Unexpected : Refusal
  TooDeep : Refusal

-- the refusal and its place; want of memory is none
abbrev pub refusal_of : ParseError → Option (Refusal × ℕ)
refusal_of (error.Unexpected place) = Some (Unexpected, place)
refusal_of (error.TooDeep place) = Some (TooDeep, place)
refusal_of (error.Memory e) = None

-- the refusal and the number of its token; want of memory is none
abbrev pub fault_of : Fault → Option (Refusal × ℕ)
fault_of (fault.Unexpected token) = Some (Unexpected, token)
fault_of (fault.TooDeep token) = Some (TooDeep, token)
fault_of (fault.Memory e) = None
