pub mod Cuts
pub mod Passing
pub mod Choosing
pub mod Written
