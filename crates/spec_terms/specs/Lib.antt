pub mod Term
pub mod Unifier
pub mod Binding
pub mod Rank
