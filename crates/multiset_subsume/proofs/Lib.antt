pub mod Removal
pub mod Along
pub mod Keeping
pub mod Confining
pub mod Searching
pub mod FirstRows
pub mod Refuting
pub mod Parting
