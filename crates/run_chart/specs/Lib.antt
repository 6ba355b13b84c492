pub mod Rows
pub mod Drawn
