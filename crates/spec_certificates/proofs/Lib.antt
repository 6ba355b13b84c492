pub mod OneRuling
pub mod Selected
pub mod Accepting
mod Placing
mod Ruled
pub mod Announced
mod Encrypting
mod Announcing
mod Remembering
