-- Reading certificates by numbers by counts: of the nodes that the walk has completed, and of symbols.
pub mod Words
pub mod Nodes
pub mod Counts
pub mod ReadFacts
pub mod ReadClauses
