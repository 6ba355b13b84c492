pub mod Slots
pub mod Scopes
pub mod Conditions
pub mod Fresh
