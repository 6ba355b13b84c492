pub mod Instructions
pub mod Stage
pub mod Labels
