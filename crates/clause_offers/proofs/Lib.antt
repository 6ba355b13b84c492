pub mod Offers
pub mod Covering
pub mod Covers
