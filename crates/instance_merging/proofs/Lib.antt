-- Lemmas about ids that a bank knows.
pub mod Known
