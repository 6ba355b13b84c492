-- What the lexer may answer.
use Rattle.std.specs.Prelude.{◌≡◌, ℕ, List, Option, None, IfSome, Result, Ok, Err}
use Rattle.spec_protocol_tokens.specs.Token as own
use Rattle.spec_protocol_tokens.specs.Piece.{Refusal}
use Rattle.spec_protocol_tokens.specs.Lexed.{Stops}
use Rattle.pi_lexer.specs.declared.error.LexError.{LexError}
use Rattle.pi_lexer.specs.Error.{refusal_of}

-- the bytes are refused so, and there; want of memory says nothing of them
abbrev pub IsRefusalOf : List ℕ → LexError → Type 0
IsRefusalOf bytes error = IfSome (refusal_of error) (λ refusal. Stops bytes refusal.0 refusal.1)

-- the error is want of memory
abbrev pub IsMemory : LexError → Type 0
IsMemory error = refusal_of error ≡ None

-- these tokens, unless memory ran out
abbrev pub GivesTokens : List own.Token → Result (List own.Token) LexError → Type 0
GivesTokens tokens (Ok found) = found ≡ tokens
GivesTokens tokens (Err error) = IsMemory error

-- this refusal at this place, unless memory ran out
abbrev pub GivesRefusal : Refusal → ℕ → Result (List own.Token) LexError → Type 0
GivesRefusal why place (Ok found) = ⊥
GivesRefusal why place (Err error) = IfSome (refusal_of error) (λ refusal. (refusal.0 ≡ why) × (refusal.1 ≡ place))
