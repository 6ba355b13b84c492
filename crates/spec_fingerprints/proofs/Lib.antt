pub mod Meeting
pub mod Examples
