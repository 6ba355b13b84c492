pub mod FirstRows
pub mod First
pub mod Verdict
pub mod Example
