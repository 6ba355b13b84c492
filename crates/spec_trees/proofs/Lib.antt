pub mod Substitution
pub mod Measures
pub mod Occurrence
pub mod Rows
pub mod Equality
