-- What the parser may answer.
use Rattle.std.specs.Prelude.{◌≡◌, ℕ, List, length, Option, Some, None, IfSome, option_map, slice_get, Result, Ok, Err}
use Rattle.spec_protocol_tokens.specs.Token as token
use Rattle.spec_protocol_grammar.specs.Classes.{source}
use Rattle.spec_protocol_grammar.specs.Sketch as own
use Rattle.spec_protocol_grammar.specs.Spelling.{IsSketch}
use Rattle.spec_protocol_grammar.specs.Refusals.{IsUnexpected, IsTooDeep}
use Rattle.pi_parser.specs.declared.sketch.Sketch.{Sketch}
use Rattle.pi_parser.specs.declared.error.Fault.{Fault}
use Rattle.pi_parser.specs.declared.error.ParseError.{ParseError}
use Rattle.pi_parser.specs.Errors.{Refusal, Unexpected, TooDeep, refusal_of, fault_of}
use Rattle.pi_parser.specs.Files.{file_of}

-- where a token begins, if there is one
abbrev pub place_from : ℕ → Option token.Token → ℕ
place_from end None = end
place_from end (Some t) = t.from

-- where the token of this number begins, the length of the file behind the last one
abbrev pub place_at : List ℕ → List token.Token → ℕ → ℕ
place_at bytes tokens i = place_from (length bytes) (slice_get tokens i)

-- the tokens of these bytes are spelled as the sketch is
abbrev pub IsSpelled : List ℕ → List token.Token → own.FileSketch → Type 0
IsSpelled bytes tokens f = IsSketch (source bytes tokens) f

-- they are refused so, at the token of this number, or at their end
abbrev pub IsRefusedIn : List ℕ → List token.Token → Refusal → ℕ → Type 0
IsRefusedIn bytes tokens Unexpected i = IsUnexpected (source bytes tokens) (length tokens) i
IsRefusedIn bytes tokens TooDeep i = IsTooDeep (source bytes tokens) i

-- they are refused so, at a token that begins at this place
abbrev pub IsRefusedAt : List ℕ → List token.Token → Refusal → ℕ → Type 0
IsRefusedAt bytes tokens why place = (i : ℕ) × IsRefusedIn bytes tokens why i × (place ≡ place_at bytes tokens i)

-- the tokens are refused so, and there; want of memory says nothing of them
abbrev pub IsRefusalOf : List ℕ → List token.Token → ParseError → Type 0
IsRefusalOf bytes tokens error = IfSome (refusal_of error) (λ refusal. IsRefusedAt bytes tokens refusal.0 refusal.1)

-- the sketch of the tokens, or the refusal of them with the number of its token
abbrev pub Reads : List ℕ → List token.Token → Result (Sketch × ℕ) Fault → Type 0
Reads bytes tokens (Ok read) = IsSpelled bytes tokens (file_of read.0)
Reads bytes tokens (Err fault) = IfSome (fault_of fault) (λ refusal. IsRefusedIn bytes tokens refusal.0 refusal.1)

-- the refusal with the place of its token
abbrev pub placed : List ℕ → List token.Token → Option (Refusal × ℕ) → Option (Refusal × ℕ)
placed bytes tokens refusal = option_map (λ r. (r.0, place_at bytes tokens r.1)) refusal

-- this sketch, unless memory ran out
abbrev pub GivesSketch : own.FileSketch → Result Sketch ParseError → Type 0
GivesSketch f (Ok sketch) = file_of sketch ≡ f
GivesSketch f (Err error) = refusal_of error ≡ None

-- this refusal at this place, unless memory ran out
abbrev pub GivesRefusal : Refusal → ℕ → Result Sketch ParseError → Type 0
GivesRefusal why place (Ok sketch) = ⊥
GivesRefusal why place (Err error) = IfSome (refusal_of error) (λ refusal. (refusal.0 ≡ why) × (refusal.1 ≡ place))
