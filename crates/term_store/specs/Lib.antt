pub mod Measures
pub mod Shapes
pub mod Hashing
pub mod SharedBank
