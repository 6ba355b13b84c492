use Rattle.std.proofs.Common.{◌≡◌, max, take, flat_map}
use Rattle.spec_trees.specs.Tree.{depth}
use Rattle.term_tree.specs.Bank.{tree_at}
use Rattle.clause_form.specs.Bounds.{above}
use Rattle.clause_diffs.proofs.Counting.{leaves_at}
use Rattle.clause_form.proofs.bounds.+above_term.Given as goal

abbrev pub decreases-above_term : goal.decreases-above_term
decreases-above_term g l = depth (tree_at (g.B.Bank.trees l.bank.now) l.id)

abbrev pub invariant-each : goal.invariant-each
invariant-each g l = l.found ≡ max l.least (above (flat_map (leaves_at (g.B.Bank.trees l.bank)) (take l.argument-index l.arguments)))
