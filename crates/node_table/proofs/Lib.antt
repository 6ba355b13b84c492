pub mod Adding
pub mod Entering
pub mod Rooms
mod Known
