pub mod Few
pub mod Naming
pub mod Seen
pub mod SeenSteps
