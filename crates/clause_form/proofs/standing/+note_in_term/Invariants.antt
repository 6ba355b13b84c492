use Rattle.std.proofs.Common.{◌≡◌, take, flat_map}
use Rattle.spec_trees.specs.Tree.{depth}
use Rattle.term_tree.specs.Bank.{tree_at}
use Rattle.clause_form.specs.Standing.{noted}
use Rattle.clause_diffs.proofs.Counting.{leaves_at}
use Rattle.clause_form.proofs.standing.+note_in_term.Given as goal

abbrev pub decreases-note_in_term : goal.decreases-note_in_term
decreases-note_in_term g l = depth (tree_at (g.B.Bank.trees l.bank.now) l.id)

abbrev pub invariant-each : goal.invariant-each
invariant-each g l = l.table ≡ noted l.fn.table (flat_map (leaves_at (g.B.Bank.trees l.bank)) (take l.argument-index l.arguments))
