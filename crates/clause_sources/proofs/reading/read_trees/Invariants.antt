use Rattle.std.proofs.Common.{◌≡◌, map, take}
use Rattle.term_tree.specs.Bank.{tree_at}
use Rattle.clause_diffs.specs.Plain.{term_of}
use Rattle.clause_sources.proofs.reading.read_trees.Given as goal

abbrev pub invariant-each : goal.invariant-each
invariant-each g l = map term_of l.items.items ≡ map (tree_at (g.B.Bank.trees l.bank)) (take l.id-index l.ids)
