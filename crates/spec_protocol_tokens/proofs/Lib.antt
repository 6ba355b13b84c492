-- Laws of the lexical grammar.
mod Worked
pub mod Sizes
pub mod Closing
pub mod Covers
pub mod Answers
pub mod Comments
