pub mod Threads
pub mod Moves
pub mod Happenings
pub mod Configurations
pub mod Changes
