pub mod Derived
pub mod Replayed
