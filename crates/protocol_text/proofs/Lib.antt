pub mod Listing
pub mod SameRuns
pub mod SubjectLists
pub mod Proper
