pub mod Loops
pub mod Terms
