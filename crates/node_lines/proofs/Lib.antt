pub mod Loops
pub mod Starts
pub mod BoundNodes
pub mod Arities
pub mod Spelled
pub mod Ends
pub mod NumberIds
