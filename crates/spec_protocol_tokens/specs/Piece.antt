-- What stands at the front of some bytes, as long as it goes.
use Rattle.std.specs.Prelude.{ℕ, ◌+◌, max, if◌then◌else◌, ◌==◌, nat_eq, nat_le, Bool, List, [], ◌∷◌, length, take, drop, Option, Some, None, option_map, codes}
use Rattle.std.specs.List.{prefix_len, starts_with}
use Rattle.std.specs.Char.{is_ascii_digit}
use Rattle.spec_calculus.specs.Bounds.{most_digits}
use Rattle.spec_protocol_tokens.specs.Token.{TokenKind, Identifier, Reserved, Number, Symbol}
use Rattle.spec_protocol_tokens.specs.Bytes.{is_blank, begins_word, is_in_word, is_reserved, symbols}

-- why bytes are no tokens
pub data Refusal : Type 0 where
  BadByte : Refusal  -- nothing begins with this byte
  OpenComment : Refusal  -- a comment has no end
  LongNumber : Refusal  -- a number has more digits than the limit

-- what stands at the front of the bytes, with its number of bytes
pub data Piece : Type 0 where
  Nothing : Piece  -- the bytes are at their end
  Blank : Piece  -- one byte of white space
  Comment : (size : ℕ) → Piece
  Lexeme : (kind : TokenKind) → (size : ℕ) → Piece
  Refused : (refusal : Refusal) → Piece

-- whether the bytes begin with this text
abbrev pub begins : List ℕ → List ℕ → Bool
begins text bytes = starts_with nat_eq bytes text

-- how long the longest of these texts is that the bytes begin with, 0 where they begin with none
abbrev pub longest_front : List (List ℕ) → List ℕ → ℕ
longest_front [] bytes = 0
longest_front (text ∷ texts) bytes =
    if begins text bytes then max (length text) (longest_front texts bytes) else longest_front texts bytes

-- how many bytes there are up to and with the first `*)`
abbrev pub closed_after : List ℕ → Option ℕ
closed_after [] = None
closed_after (b ∷ bytes) =
    if begins (codes "*)") (b ∷ bytes) then Some 2 else option_map (λ n. 1 + n) (closed_after bytes)

-- a comment whose end is so many bytes behind its `(*`
abbrev pub comment_of : Option ℕ → Piece
comment_of None = Refused OpenComment
comment_of (Some n) = Comment (2 + n)

-- a word is reserved or an identifier
abbrev pub word_kind : List ℕ → TokenKind
word_kind word = if is_reserved word then Reserved else Identifier

-- a number of so many digits
abbrev pub number_of : ℕ → Piece
number_of digits = if nat_le digits most_digits then Lexeme Number digits else Refused LongNumber

-- a symbol of so many bytes; of none, there is no symbol
abbrev pub symbol_of : ℕ → Piece
symbol_of size = if size == 0 then Refused BadByte else Lexeme Symbol size

-- a word of so many of these bytes
abbrev pub word_of : ℕ → List ℕ → Piece
word_of size bytes = Lexeme (word_kind (take size bytes)) size

-- what stands at the front of these bytes, the first of which is b: white space, a word, a number, a comment or a symbol
abbrev pub piece_from : ℕ → List ℕ → Piece
piece_from b bytes =
    if is_blank b then Blank
    else (if begins_word b then word_of (prefix_len is_in_word bytes) bytes
    else (if is_ascii_digit b then number_of (prefix_len is_ascii_digit bytes)
    else (if begins (codes "(*") bytes then comment_of (closed_after (drop 2 bytes))
    else symbol_of (longest_front symbols bytes))))

-- what stands at the front of the bytes, as long as it goes
abbrev pub piece : List ℕ → Piece
piece [] = Nothing
piece (b ∷ bytes) = piece_from b (b ∷ bytes)

-- how many bytes a piece takes
abbrev pub size_of : Piece → ℕ
size_of Nothing = 0
size_of Blank = 1
size_of (Comment size) = size
size_of (Lexeme kind size) = size
size_of (Refused refusal) = 0
