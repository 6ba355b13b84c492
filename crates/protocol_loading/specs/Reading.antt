-- What the reading of a protocol answers.
use Rattle.std.specs.Prelude.{◌≡◌, ℕ, ◌<◌, ◌⊎◌, List, length, Option, Some, None, IfSome, option_map}
use Rattle.spec_calculus.specs.Bounds.{most_bytes}
use Rattle.spec_protocol_tokens.specs.Piece as lexing
use Rattle.spec_protocol_scope.specs.Spells as spells
use Rattle.spec_protocol_scope.specs.Spells.{Refuses}
use Rattle.hv_io.specs.Place.{line_at, column_at}
use Rattle.pi_parser.specs.Errors as parsing
use Rattle.protocol_loading.specs.declared.codes.ProtocolCode.TheVariants as code
use Rattle.protocol_loading.specs.declared.reading.Stop.{Stop}
use Rattle.protocol_loading.specs.declared.reading.Stop.TheVariants as stop
use Rattle.protocol_loading.specs.declared.loading.Unloaded.{Unloaded}
use Rattle.protocol_loading.specs.declared.loading.Unloaded.TheVariants as unloaded
use Rattle.protocol_loading.specs.declared.loading.Unread.{Unread}
use Rattle.protocol_loading.specs.declared.loading.Unread.TheVariants as unread
use Rattle.protocol_loading.specs.Codes.{refusal_by}
use Rattle.protocol_loading.specs.Outside.{Outside, IsFaulty, IsNothingLoaded, OfFile}

-- the refusal and its place; want of memory is none
abbrev pub refusal_of : Stop → Option (spells.Refusal × ℕ)
refusal_of (stop.Refused why place) = Some (refusal_by why, place)
refusal_of stop.Memory = None

-- what the lexer, the parser and the rules of scope refuse, among the refusals of a file
abbrev pub lexical : Option (lexing.Refusal × ℕ) → Option (spells.Refusal × ℕ)
lexical refusal = option_map (λ r. (spells.Lexical r.0, r.1)) refusal

abbrev pub by_grammar : parsing.Refusal → spells.Refusal
by_grammar parsing.Unexpected = spells.Unexpected
by_grammar parsing.TooDeep = spells.TooDeep

abbrev pub grammatical : Option (parsing.Refusal × ℕ) → Option (spells.Refusal × ℕ)
grammatical refusal = option_map (λ r. (by_grammar r.0, r.1)) refusal

-- the bytes are refused so; want of memory says nothing of them
abbrev pub IsStopOf : List ℕ → Stop → Type 0
IsStopOf bytes why = IfSome (refusal_of why) (λ refusal. Refuses bytes refusal.0 refusal.1)

-- the bytes are refused so, at a place on this line and in this column
pub record IsRefusedAt (bytes : List ℕ) (why : spells.Refusal) (line column : ℕ) : Type 0 where
  pub place : ℕ
  pub refused : Refuses bytes why place
  pub on_line : line ≡ line_at bytes place
  pub in_column : column ≡ column_at bytes place

-- no protocol was read in these bytes, for this reason
abbrev pub IsNoReading : List ℕ → Unread → Type 0
IsNoReading bytes (unread.Refused line column why) = IsRefusedAt bytes (refusal_by why) line column
IsNoReading bytes unread.Memory = Unit {0}
IsNoReading bytes unread.Fault = ⊥

-- what there is in place of a protocol whose text could not be loaded
abbrev pub not_loaded : Unloaded → Unread
not_loaded unloaded.Failed = unread.Fault
not_loaded unloaded.TooLong = unread.Refused 1 1 code.LongFile
not_loaded unloaded.Memory = unread.Memory

-- no text was loaded of a file that may have so many bytes, for this reason
abbrev pub IsNoText : Outside → List ℕ → ℕ → Unloaded → Type 0
IsNoText files name most unloaded.Failed = IsNothingLoaded files × IsFaulty files name
IsNoText files name most unloaded.TooLong = OfFile files name most (λ bytes. most < length bytes)
IsNoText files name most unloaded.Memory = IsNothingLoaded files

-- no protocol was loaded of the file, for this reason
abbrev pub IsUnread : Outside → List ℕ → Unread → Type 0
IsUnread files file unread.Fault = IsNothingLoaded files × IsFaulty files file
IsUnread files file (unread.Refused line column why) =
    OfFile files file most_bytes (λ bytes. IsRefusedAt bytes (refusal_by why) line column)
IsUnread files file unread.Memory = OfFile files file most_bytes (λ bytes. Unit {0}) ⊎ IsNothingLoaded files
