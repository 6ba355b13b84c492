pub mod RuledRows
pub mod Ways
pub mod Walks
