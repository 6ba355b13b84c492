-- The rules of scope: from the sketch of a file to the protocol that it stands for, or the first fault.
pub mod Answers
pub mod Names
pub mod Terms
pub mod Expressions
pub mod Patterns
pub mod Declarations
pub mod Phases
pub mod Processes
pub mod Queries
pub mod Scope
pub mod Spells
pub mod Evaluated
pub mod Words
pub mod Plain
