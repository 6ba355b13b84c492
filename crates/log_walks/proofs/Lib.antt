pub mod Stepping
pub mod Fitting
pub mod Pairing
pub mod Found
pub mod Scanning
pub mod Partners
pub mod Giving
