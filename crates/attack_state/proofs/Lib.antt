-- Lemmas about listed numbers, steps, names, nodes that were done, and places.
pub mod Listing
pub mod Few
pub mod Outcomes
pub mod Stepping
pub mod Named
pub mod Parting
pub mod Knowing
pub mod Valued
pub mod SoFar
pub mod Behind
pub mod Places
pub mod Changing
