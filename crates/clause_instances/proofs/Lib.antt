-- Lemmas about terms that are closed, about meetings of clauses, and about the stack of pending entries.
pub mod Closes
pub mod Keeping
pub mod Meetings
pub mod Origins
pub mod Instancing
pub mod Owning
pub mod Descending
pub mod Stacks
pub mod Growing
