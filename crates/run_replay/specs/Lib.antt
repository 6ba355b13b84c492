-- What contracts of reading and replaying runs speak of.
pub mod Error
pub mod Answer
pub mod Actions
pub mod Cut
pub mod Replay
pub mod Limits
pub mod Reached
pub mod Shown
pub mod Codes
