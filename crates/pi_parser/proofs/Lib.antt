-- The lemmas of the parser.
pub mod Lists
pub mod Levels
pub mod Files
pub mod Tokens
