-- Lemmas about the variables of trees, about constraints, about parts with their numbers, and about sources in a list.
pub mod Numbering
pub mod Counting
pub mod Telling
pub mod BoundVariables
