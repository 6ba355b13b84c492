-- Items of a list without repeats, and those that pass a test, item by item.
pub use Rattle.clause_diffs.proofs.Counting.{distinct_on, filter-append}
