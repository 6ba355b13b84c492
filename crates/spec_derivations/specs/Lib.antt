pub mod Derivation
pub mod Choice
pub mod Closed
pub mod Laws
pub mod Example
pub mod Resting
