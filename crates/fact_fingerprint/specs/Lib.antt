pub mod Ranges
pub mod Seen
