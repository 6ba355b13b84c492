pub mod Listed
pub mod Conditions
