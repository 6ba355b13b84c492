-- The laws of the grammar.
pub mod Same
pub mod Items
pub mod Good
pub mod Combine
pub mod Choose
pub mod Lists
pub mod Terms
pub mod Patterns
pub mod Units
pub mod Declarations
pub mod Overlay
pub mod Ended
pub mod Answers
pub mod Tireless
