pub mod Codes
pub mod Seen
pub mod Spelled
pub mod Refused
