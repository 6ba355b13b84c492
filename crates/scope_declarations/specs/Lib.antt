-- What the contracts of the rules of scope for declarations speak of.
pub mod Props
pub mod Within
pub mod Text
pub mod Answer
pub mod Names
pub mod Tables
pub mod Scope
pub mod Bound
pub mod BoundProps
pub mod Variables
pub mod Terms
