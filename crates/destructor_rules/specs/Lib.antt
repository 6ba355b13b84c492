pub mod Leaves
pub mod Bindings
