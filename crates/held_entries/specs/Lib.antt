pub mod Keys
pub mod Wanted
pub mod EntryCodes
pub mod Entries
pub mod Index
