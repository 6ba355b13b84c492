-- What contracts see of owned trees.
pub use Rattle.clause_diffs.specs.Plain.{term_of}
