pub mod Spans
pub mod Macros
pub mod Stopping
pub mod Rows
pub mod Extents
pub mod Restrictions
pub mod Bytes
pub mod Shortness
