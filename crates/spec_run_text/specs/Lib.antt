-- The text of a run: the lines of some bytes, the steps that lines spell, and where bytes are refused.
pub mod Lines
pub mod Spelling
pub mod Faults
pub mod Text
pub mod Reading
pub mod Laws
