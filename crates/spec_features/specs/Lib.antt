pub mod Features
pub mod Examples
