pub mod Claimed
pub mod Reached
pub mod Rulings
pub mod Sufficing
