pub mod Codes
pub mod Closing
pub mod Instances
pub mod Derivations
pub mod Descents
pub mod Closed
pub mod Parents
