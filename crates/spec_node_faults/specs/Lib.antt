-- Certificates by numbers as they stand in a text, and the places of their faults, each code by itself.
pub mod Loose
pub mod Nodes
pub mod Clauses
pub mod Faults
pub mod Grammar
pub mod Examples
