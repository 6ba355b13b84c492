-- Certificates by numbers in bytes: the kinds of their texts, in which what stands before counts, with their faults; and reading them.
pub mod Kinds
pub mod Numbers
pub mod Nodes
pub mod Walked
pub mod Facts
pub mod Clauses
pub mod Readable
pub mod Loops
pub mod ReadNodes
pub mod ReadClauses
pub mod Reading
pub mod Reports
