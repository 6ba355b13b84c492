-- Tokens as contracts see them.
use Rattle.spec_protocol_tokens.specs.Token as own
use Rattle.pi_lexer.specs.declared.token.Token.{Token}
use Rattle.pi_lexer.specs.declared.token.TokenKind.{TokenKind}
use Rattle.pi_lexer.specs.declared.token.TokenKind.TheVariants.{Ident, Reserved, Number, Symbol}

-- the kind of a token
abbrev pub kind_of : TokenKind → own.TokenKind
kind_of Ident = own.Identifier
kind_of Reserved = own.Reserved
kind_of Number = own.Number
kind_of Symbol = own.Symbol

-- a token
abbrev pub token_of : Token → own.Token
token_of t = record { kind = kind_of t.kind; from = t.from; to = t.to }
