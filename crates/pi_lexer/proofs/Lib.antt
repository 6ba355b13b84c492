-- Lemmas of the lexer.
mod Lexing
