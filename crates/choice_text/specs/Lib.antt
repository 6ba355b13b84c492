pub mod Choices
pub mod Codes
pub mod Lines
pub mod Seen
pub mod Splitting
