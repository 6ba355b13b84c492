pub mod Runs
pub mod Fronts
pub mod Order
pub mod Growing
