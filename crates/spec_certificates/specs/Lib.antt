pub mod Shown
pub mod Certificate
pub mod Ruling
pub mod Announcing
pub mod Remembering
pub mod Example
