pub mod Stack
pub mod Points
pub mod Variables
pub mod Closing
pub mod Walk
