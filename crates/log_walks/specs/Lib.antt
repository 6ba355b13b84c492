pub mod Walked
pub mod Pairs
