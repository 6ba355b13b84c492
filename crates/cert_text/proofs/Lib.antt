pub mod Lines
pub mod Running
pub mod Claimed
mod Spelled
mod Refused
