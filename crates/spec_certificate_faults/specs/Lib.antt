-- Faults of the texts of terms, by the texts: what stands in the bytes, and not how they are read.
pub mod Grammar
pub mod TermFaults
pub mod First
