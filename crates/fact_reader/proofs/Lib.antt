pub mod Places
pub mod Things
pub mod WordsThere
pub mod Rounds
pub mod KeptState
