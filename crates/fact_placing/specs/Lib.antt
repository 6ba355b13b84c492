pub mod Boards
pub mod Matched
