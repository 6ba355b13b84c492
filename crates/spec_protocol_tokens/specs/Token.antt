-- Tokens: a kind, and a span of the bytes.
use Rattle.std.specs.Prelude.{ℕ, List, slice_range}

-- what kind of token
pub data TokenKind : Type 0 where
  Identifier : TokenKind
  Reserved : TokenKind
  Number : TokenKind
  Symbol : TokenKind

-- a token of this kind stands from the byte `from` up to the byte `to`, which is behind it; both from 0
pub record Token : Type 0 where
  pub kind : TokenKind
  pub from : ℕ
  pub to : ℕ

-- the bytes of a token
abbrev pub text : List ℕ → Token → List ℕ
text bytes token = slice_range bytes token.from token.to
