pub mod Tree
pub mod Code
pub mod Same
pub mod Leaves
