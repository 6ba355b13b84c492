pub mod ThreadSteps
pub mod Causes
pub mod Naming
pub mod Passing
pub mod Keeping
pub mod Told
pub mod NextPhase
pub mod TableSteps
