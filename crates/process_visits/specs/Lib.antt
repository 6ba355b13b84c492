pub mod Forms
pub mod Channels
pub mod Processes
pub mod Entries
pub mod Telling
pub mod Labels
