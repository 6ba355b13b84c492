-- What the lexer's contracts speak of.
pub mod Token
pub mod Error
pub mod Answer
pub mod Piece
