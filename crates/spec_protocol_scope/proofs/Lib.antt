mod Examples
mod ExamplesNested
mod ExamplesPhases
pub mod Stepped
pub mod Laws
pub mod Points
pub mod Solid
pub mod Terms
pub mod Numbering
pub mod Leaves
pub mod Meanings
pub mod Known
pub mod Spelled
pub mod Rules
pub mod Widening
pub mod Declarations
pub mod Declaring
pub mod Spelling
pub mod Patterns
pub mod Events
pub mod Expressions
pub mod Phases
pub mod Placed
pub mod Processes
pub mod Queries
pub mod Identifiers
pub mod Complete
pub mod Evaluated
pub mod Plain
pub mod Distinct
