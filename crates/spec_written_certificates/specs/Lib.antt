-- Worked clauses with constraints.
pub mod Examples
