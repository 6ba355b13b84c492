pub mod Codes
pub mod Seen
pub mod Listed
pub mod Bound
pub mod Places
