pub mod Fits
pub mod Searched
