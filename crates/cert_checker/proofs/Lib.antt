pub mod Composing
pub mod Leftovers
pub mod Reaching
pub mod Proper
pub mod Sufficing
pub mod Accepting
pub mod Standing
pub mod Choosing
