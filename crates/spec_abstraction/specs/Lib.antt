pub mod Trace
pub mod Naming
pub mod Taken
pub mod Derived
pub mod OneToOne
