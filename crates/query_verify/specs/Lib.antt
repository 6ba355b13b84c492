pub mod Codes
pub mod Told
pub mod Asked
pub mod Settled
