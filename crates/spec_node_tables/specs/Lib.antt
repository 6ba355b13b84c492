-- Certificates by a table of nodes: the table of clauses, clauses by numbers, their text and order, and which may be written so.
pub mod Table
pub mod Nodes
pub mod Text
pub mod OfProtocol
pub mod Large
pub mod Order
pub mod Examples
