pub mod Reading
mod Walking
mod Stopping
pub mod Rows
pub mod Complete
pub mod Plain
pub mod Flags
