pub mod Deciding
pub mod Picking
pub mod Searching
pub mod Choosing
