-- Lemmas about steps of threads, walks, and instances that are compiled.
pub mod Violating
