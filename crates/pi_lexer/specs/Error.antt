-- What an error says.
use Rattle.std.specs.Prelude.{ℕ, Option, Some, None}
use Rattle.spec_protocol_tokens.specs.Piece as own
use Rattle.pi_lexer.specs.declared.error.LexError.{LexError}
use Rattle.pi_lexer.specs.declared.error.LexError.TheVariants.{BadByte, OpenComment, LongNumber, Memory}

-- the refusal and its place; want of memory is none
abbrev pub refusal_of : LexError → Option (own.Refusal × ℕ)
refusal_of (BadByte place) = Some (own.BadByte, place)
refusal_of (OpenComment place) = Some (own.OpenComment, place)
refusal_of (LongNumber place) = Some (own.LongNumber, place)
refusal_of (Memory e) = None
