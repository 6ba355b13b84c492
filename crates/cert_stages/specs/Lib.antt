pub mod Stages
pub mod Arguments
pub mod Answers
pub mod Checked
pub mod Shaping
pub mod Lowering
pub mod Unsolved
pub mod Numbers
