pub mod Completing
pub mod Counting
pub mod Rows
pub mod Beginning
pub mod Ways
pub mod Labelling
