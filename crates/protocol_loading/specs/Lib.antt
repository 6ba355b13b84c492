pub mod Codes
pub mod Loaded
pub mod Outside
pub mod Reading
