pub mod Spots
pub mod Questions
pub mod Asking
pub mod TableUses
