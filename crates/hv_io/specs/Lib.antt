pub mod Decimal
pub mod Faults
pub mod Files
pub mod InMemory
pub mod Place
pub mod Sink
