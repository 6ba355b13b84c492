pub mod Lanes
pub mod Listed
pub mod Items
