pub mod Trail
pub mod Table
pub mod Seen
pub mod Outcome
pub mod Memo
pub mod Progress
pub mod Substitution
