pub mod Listing
pub mod States
pub mod Outcomes
pub mod Parts
pub mod Placings
pub mod Applied
pub mod Valued
