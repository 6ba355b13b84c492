pub mod Members
pub mod ThreadItems
pub mod Points
