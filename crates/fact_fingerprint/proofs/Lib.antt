pub mod Below
pub mod Ranging
pub mod Comparing
pub mod Telling
