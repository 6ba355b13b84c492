pub mod Standing
pub mod Walks
pub mod Compiled
