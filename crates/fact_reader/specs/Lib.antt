pub mod Errors
pub mod Gives
pub mod Reads
pub mod Walks
pub mod Over
