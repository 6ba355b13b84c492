pub mod Adding
pub mod Numbering
pub mod Rules
pub mod Raws
pub mod Later
