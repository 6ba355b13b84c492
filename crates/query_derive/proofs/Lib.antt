pub mod Converting
pub mod Narrowing
pub mod Searching
pub mod Deciding
pub mod Asking
pub mod FewArguments
