-- Faults of syntax, and the texts that don't go on where they are told.
pub mod Syntax
