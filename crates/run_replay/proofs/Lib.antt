-- Lemmas about cutting bytes, about digits and about what is left to read.
pub mod Cutting
pub mod Fields
pub mod Reading
pub mod OneLine
pub mod Applying
pub mod Violations
pub mod Open
pub mod Writing
pub mod Sometime
