-- Terms that are put into a table, and room that is left for symbols.
pub mod Entered
pub mod Room
