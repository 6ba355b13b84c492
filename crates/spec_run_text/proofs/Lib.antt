mod Worked
pub mod Numbers
pub mod Fields
pub mod Lacking
pub mod Actions
pub mod OneLine
pub mod Lines
pub mod Answers
