-- Well-formed protocols: rules, patterns, queries, limits, and what terms may hold where they stand.
pub mod Signature
pub mod Leaves
pub mod Rules
pub mod Queries
pub mod Terms
pub mod Processes
pub mod Limits
pub mod WellFormed
pub mod Words
