-- Kinds of texts, and the kinds of facts, clauses, certificates and reports.
pub mod Kinds
pub mod Numbers
pub mod Facts
pub mod Clauses
pub mod Reports
pub mod Told
