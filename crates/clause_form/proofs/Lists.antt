-- Folds over lists, item by item.
pub use Rattle.clause_diffs.proofs.Lists.{flat_map_more, flat_map_all, total_more, total_all, total-map, total-append}
