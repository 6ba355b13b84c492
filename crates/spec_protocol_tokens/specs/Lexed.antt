-- The tokens of some bytes, or the place at which they are none.
use Rattle.std.specs.Prelude.{◌≡◌, ℕ, ◌+◌, ◌<◌, List, [], ◌∷◌, ◌++◌, length, drop}
use Rattle.spec_protocol_tokens.specs.Token.{Token}
use Rattle.spec_protocol_tokens.specs.Piece.{Piece, Refusal, Nothing, Blank, Comment, Lexeme, Refused, piece, size_of}

-- from `at` to `end` the bytes are these pieces, one behind the other
abbrev pub Covers : List ℕ → ℕ → List Piece → ℕ → Type 0
Covers bytes at [] end = at ≡ end
Covers bytes at (p ∷ ps) end = (piece (drop at bytes) ≡ p) × (0 < size_of p) × Covers bytes (at + size_of p) ps end

-- the token that a piece is, where it is one
abbrev pub token_of : ℕ → Piece → List Token
token_of at Nothing = []
token_of at Blank = []
token_of at (Comment size) = []
token_of at (Lexeme kind size) = record { kind = kind; from = at; to = at + size } ∷ []
token_of at (Refused refusal) = []

-- the tokens among these pieces, the first of which stands at `at`
abbrev pub tokens_of : ℕ → List Piece → List Token
tokens_of at [] = []
tokens_of at (p ∷ ps) = token_of at p ++ tokens_of (at + size_of p) ps

-- the bytes before `end` are pieces, with these tokens among them
pub record LexedTo (bytes : List ℕ) (end : ℕ) (tokens : List Token) : Type 0 where
  pub pieces : List Piece
  pub cover : Covers bytes 0 pieces end
  pub among : tokens_of 0 pieces ≡ tokens

-- these are the tokens of the bytes
abbrev pub Lexed : List ℕ → List Token → Type 0
Lexed bytes tokens = LexedTo bytes (length bytes) tokens

-- at this place, and at none before, the bytes are refused so
pub record Stops (bytes : List ℕ) (refusal : Refusal) (place : ℕ) : Type 0 where
  pub refused : piece (drop place bytes) ≡ Refused refusal
  pub tokens : List Token
  pub before : LexedTo bytes place tokens
