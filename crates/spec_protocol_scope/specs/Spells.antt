-- What the bytes of a file spell, and where they are refused.
use Rattle.std.specs.Prelude.{◌≡◌, ℕ, ◌<◌, ◌≤◌, ◌⊎◌, List, [], length, slice_get, Ok}
use Rattle.std.specs.Option.{option_map_or}
use Rattle.spec_calculus.specs.Bounds.{most_bytes}
use Rattle.spec_calculus.specs.Syntax.{Protocol}
use Rattle.spec_protocol_tokens.specs.Token.{Token, text}
use Rattle.spec_protocol_tokens.specs.Piece as piece
use Rattle.spec_protocol_tokens.specs.Lexed.{Lexed, Stops}
use Rattle.spec_protocol_grammar.specs.Classes.{source}
use Rattle.spec_protocol_grammar.specs.Sketch.{FileSketch}
use Rattle.spec_protocol_grammar.specs.Spelling.{IsSketch}
use Rattle.spec_protocol_grammar.specs.Refusals.{IsUnexpected, IsTooDeep}
use Rattle.spec_protocol_scope.specs.Answers.{Code, fault}
use Rattle.spec_protocol_scope.specs.Names.{Texts}
use Rattle.spec_protocol_scope.specs.Scope.{scope}

-- the text of each token, nothing where there is none
abbrev pub texts : List ℕ → List Token → Texts
texts bytes tokens n = option_map_or (text bytes) (slice_get tokens n) []

-- where a token stands; behind the last, at the end
abbrev pub place_of : List ℕ → List Token → ℕ → ℕ
place_of bytes tokens n = option_map_or (λ t. t.from) (slice_get tokens n) (length bytes)

-- the tokens of the bytes are spelled as the sketch is
pub record IsSketchOf (bytes : List ℕ) (f : FileSketch) : Type 0 where
  pub tokens : List Token
  pub lexed : Lexed bytes tokens
  pub read : IsSketch (source bytes tokens) f

-- the sketch of the bytes, however many they are, stands for the protocol
pub record IsProtocolOf (bytes : List ℕ) (p : Protocol) : Type 0 where
  pub tokens : List Token
  pub lexed : Lexed bytes tokens
  pub sketch : FileSketch
  pub read : IsSketch (source bytes tokens) sketch
  pub scoped : scope (texts bytes tokens) sketch ≡ Ok p

-- the bytes, which are not too many, spell the protocol
abbrev pub Spells : List ℕ → Protocol → Type 0
Spells bytes p = (length bytes ≤ most_bytes) × IsProtocolOf bytes p

-- why the bytes of a file are refused
pub data Refusal : Type 0 where
  -- they are no tokens
  Lexical : (why : piece.Refusal) → Refusal
  -- no file of the grammar goes on with a token
  Unexpected : Refusal
  -- a construct would stand below the limit of levels
  TooDeep : Refusal
  -- by the rules of scope
  Scoped : (code : Code) → Refusal
  -- they are more than a protocol's text may have
  LongFile : Refusal

-- no file of the grammar goes on with the token at this place, or at the end
pub record IsUnexpectedAt (bytes : List ℕ) (place : ℕ) : Type 0 where
  pub tokens : List Token
  pub lexed : Lexed bytes tokens
  pub token : ℕ
  pub refused : IsUnexpected (source bytes tokens) (length tokens) token
  pub stands : place_of bytes tokens token ≡ place

-- at this place begins the first construct that would stand below the limit of levels
pub record IsTooDeepAt (bytes : List ℕ) (place : ℕ) : Type 0 where
  pub tokens : List Token
  pub lexed : Lexed bytes tokens
  pub token : ℕ
  pub refused : IsTooDeep (source bytes tokens) token
  pub stands : place_of bytes tokens token ≡ place

-- the rules of scope refuse the sketch so, at this place
pub record IsFaultAt (bytes : List ℕ) (code : Code) (place : ℕ) : Type 0 where
  pub tokens : List Token
  pub lexed : Lexed bytes tokens
  pub sketch : FileSketch
  pub read : IsSketch (source bytes tokens) sketch
  pub token : ℕ
  pub refused : scope (texts bytes tokens) sketch ≡ fault code token
  pub stands : place_of bytes tokens token ≡ place

-- the bytes, which are not too many, are refused so, and there
abbrev pub IsRefusedAt : List ℕ → Refusal → ℕ → Type 0
IsRefusedAt bytes (Lexical why) place = Stops bytes why place
IsRefusedAt bytes Unexpected place = IsUnexpectedAt bytes place
IsRefusedAt bytes TooDeep place = IsTooDeepAt bytes place
IsRefusedAt bytes (Scoped code) place = IsFaultAt bytes code place
IsRefusedAt bytes LongFile place = ⊥

-- the bytes of a file are refused so, and there: a long file before all else, at its begin
abbrev pub Refuses : List ℕ → Refusal → ℕ → Type 0
Refuses bytes LongFile place = (most_bytes < length bytes) × (place ≡ 0)
Refuses bytes refusal place = (length bytes ≤ most_bytes) × IsRefusedAt bytes refusal place

-- the bytes spell a protocol, or are refused for some reason at some place
abbrev pub HasAnswer : List ℕ → Type 0
HasAnswer bytes = ((p : Protocol) × Spells bytes p) ⊎ ((refusal : Refusal) × ((place : ℕ) × Refuses bytes refusal place))
