-- What the contracts of the parser speak of.
pub mod Codes
pub mod Terms
pub mod TermDepths
pub mod Patterns
pub mod PatternDepths
pub mod Processes
pub mod Files
pub mod Errors
pub mod Gives
pub mod Answers
pub mod Tokens
pub mod Tables
