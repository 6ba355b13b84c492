pub mod Source
pub mod Gathered
pub mod Instance
pub mod Compiling
pub mod Walking
pub mod Attack
pub mod Example
