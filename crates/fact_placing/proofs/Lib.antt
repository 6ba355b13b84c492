pub mod FactTerms
pub mod Listing
pub mod Putting
pub mod Values
pub mod InCopy
pub mod Kept
