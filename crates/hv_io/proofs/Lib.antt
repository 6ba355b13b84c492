pub mod Appending
pub mod Spelling
