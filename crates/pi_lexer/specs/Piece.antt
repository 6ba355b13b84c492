-- What stands at the front of some bytes, as contracts see it.
use Rattle.spec_protocol_tokens.specs.Piece as own
use Rattle.pi_lexer.specs.Token.{kind_of}
use Rattle.pi_lexer.specs.declared.piece.Piece.{Piece}
use Rattle.pi_lexer.specs.declared.piece.Piece.TheVariants.{Blank, Comment, Lexeme, BadByte, OpenComment, LongNumber}

-- the piece
abbrev pub piece_of : Piece → own.Piece
piece_of Blank = own.Blank
piece_of (Comment size) = own.Comment size
piece_of (Lexeme kind size) = own.Lexeme (kind_of kind) size
piece_of BadByte = own.Refused own.BadByte
piece_of OpenComment = own.Refused own.OpenComment
piece_of LongNumber = own.Refused own.LongNumber
