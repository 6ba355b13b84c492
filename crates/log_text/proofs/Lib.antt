pub mod Derives
pub mod Known
pub mod Whole
