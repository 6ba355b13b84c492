pub mod Followed
pub mod Numberable
pub mod Written
pub mod Worked
