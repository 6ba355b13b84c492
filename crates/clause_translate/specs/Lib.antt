pub mod Jobs
pub mod Whole
pub mod Soundness
pub mod Gathering
