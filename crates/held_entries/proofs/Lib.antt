pub mod Wanting
pub mod Taking
pub mod Finding
