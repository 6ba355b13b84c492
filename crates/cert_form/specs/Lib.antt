pub mod Appends
pub mod Parts
pub mod Premises
pub mod Remaining
pub mod Writing
pub mod Codes
pub mod Moving
