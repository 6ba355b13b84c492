pub mod Growing
pub mod Fitting
