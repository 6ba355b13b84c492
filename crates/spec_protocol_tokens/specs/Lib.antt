-- The lexical grammar of protocol files: bytes, and the tokens that they spell.
pub mod Token
pub mod Bytes
pub mod Piece
pub mod Lexed
pub mod Laws
