pub mod Errors
pub mod Steps
pub mod PointProps
pub mod Plans
pub mod Running
pub mod Answers
