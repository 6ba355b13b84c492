mod Lines
mod Puts
pub mod Written
