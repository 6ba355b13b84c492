use Rattle.std.proofs.Common.{◌≡◌, ◌+◌, take}
use Rattle.spec_trees.specs.Tree.{depth}
use Rattle.spec_clauses.specs.Fact.{total}
use Rattle.term_tree.specs.Bank.{tree_at}
use Rattle.feature_index.specs.Lanes.{told}
use Rattle.feature_index.proofs.Counting.{symbols_at}
use Rattle.feature_index.proofs.counts.+symbols_of_term.Given as goal

abbrev pub decreases-symbols_of_term : goal.decreases-symbols_of_term
decreases-symbols_of_term g l = depth (tree_at (g.B.Bank.trees l.bank.now) l.id)

abbrev pub invariant-each : goal.invariant-each
invariant-each g l = l.symbols ≡ told ((l.fn.found + 1) + total (symbols_at (g.B.Bank.trees l.bank)) (take l.argument-index l.arguments))
