-- Lemmas about what is told, about items with their numbers, about the attacker's raw clauses, and about later phases.
pub mod Numbering
pub mod Adding
pub mod Known
pub mod Few
pub mod Later
