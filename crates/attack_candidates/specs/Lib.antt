pub mod Ended
pub mod Sound
