use Rattle.std.proofs.Common.{◌≡◌, ◌++◌, take, flat_map}
use Rattle.clause_sources.proofs.Numbering.{tree_leaves}
use Rattle.clause_sources.proofs.trees.add_terms_variables.Given as goal

abbrev pub invariant-each : goal.invariant-each
invariant-each l = l.numbers.items ≡ l.fn.numbers.items ++ flat_map tree_leaves (take l.tree-index l.tree-items)
