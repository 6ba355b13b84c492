pub mod Excluded
pub mod Fitting
pub mod SideListing
pub mod SideRows
pub mod SideWalking
