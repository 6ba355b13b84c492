pub mod Decided
pub mod Outcome
pub mod Seen
pub mod SeenOutcome
pub mod Text
pub mod VerdictText
pub mod Writing
