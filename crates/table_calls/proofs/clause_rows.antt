pub mod First
pub mod Moving
pub mod Rules
