use Rattle.std.proofs.Common.{◌≡◌, ◌++◌, take, flat_map}
use Rattle.spec_trees.specs.Tree.{depth}
use Rattle.term_tree.specs.Bank.{tree_at}
use Rattle.clause_diffs.proofs.Counting.{leaves_at}
use Rattle.clause_diffs.proofs.variables.+add_variables.Given as goal

abbrev pub decreases-add_variables : goal.decreases-add_variables
decreases-add_variables g l = depth (tree_at (g.B.Bank.trees l.bank.now) l.id)

abbrev pub invariant-each : goal.invariant-each
invariant-each g l = l.numbers.items ≡ l.fn.numbers.items ++ flat_map (leaves_at (g.B.Bank.trees l.bank)) (take l.argument-index l.arguments)
