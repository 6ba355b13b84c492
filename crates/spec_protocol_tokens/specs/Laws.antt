-- What the laws of the tokens speak of.
use Rattle.std.specs.Prelude.{◌≡◌, ℕ, ◌-◌, drop, ◌<◌, ◌≤◌, ◌⊎◌, ◌||◌, Bool, true, false, IsTrue, List, [], ◌∷◌, codes}
use Rattle.spec_protocol_tokens.specs.Token.{Token}
use Rattle.spec_protocol_tokens.specs.Piece.{Piece, Refusal, Nothing, Blank, Comment, Lexeme, Refused, begins, piece}
use Rattle.spec_protocol_tokens.specs.Lexed.{Lexed, Stops}

-- the bytes have tokens, or are refused at some place
abbrev pub HasAnswer : List ℕ → Type 0
HasAnswer bytes =
    ((tokens : List Token) × Lexed bytes tokens) ⊎ ((refusal : Refusal) × ((place : ℕ) × Stops bytes refusal place))

-- the tokens stand between these places: no span is empty, and each begins where the one before ends, or later
abbrev pub Ascend : ℕ → List Token → ℕ → Type 0
Ascend start [] end = start ≤ end
Ascend start (t ∷ ts) end = (start ≤ t.from) × (t.from < t.to) × Ascend t.to ts end

-- each token is what stands at its place
abbrev pub AllStand : List ℕ → List Token → Type 0
AllStand bytes [] = Unit {0}
AllStand bytes (t ∷ ts) = (piece (drop t.from bytes) ≡ Lexeme t.kind (t.to - t.from)) × AllStand bytes ts

-- whether a `(` with a `*` right behind it stands anywhere in the bytes
abbrev pub holds_comment : List ℕ → Bool
holds_comment [] = false
holds_comment (b ∷ bytes) = begins (codes "(*") (b ∷ bytes) || holds_comment bytes

-- a comment begins somewhere in the bytes
abbrev pub HoldsComment : List ℕ → Type 0
HoldsComment bytes = IsTrue (holds_comment bytes)

-- whether a piece is a comment
abbrev pub is_comment : Piece → Bool
is_comment Nothing = false
is_comment Blank = false
is_comment (Comment size) = true
is_comment (Lexeme kind size) = false
is_comment (Refused refusal) = false

-- the piece takes a byte at least and n at most, or is refused
abbrev pub FitsIn : ℕ → Piece → Type 0
FitsIn n Nothing = ⊥
FitsIn n Blank = 1 ≤ n
FitsIn n (Comment size) = (0 < size) × (size ≤ n)
FitsIn n (Lexeme kind size) = (0 < size) × (size ≤ n)
FitsIn n (Refused refusal) = Unit {0}
