pub mod Limits
pub mod Telling
pub mod Noting
pub mod Found
pub mod Reachable
pub mod Putting
pub mod Placed
pub mod Choosing
