pub mod Asked
pub mod Declaring
pub mod Verified
