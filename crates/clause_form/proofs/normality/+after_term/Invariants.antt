use Rattle.std.proofs.Common.{◌≡◌, take, flat_map}
use Rattle.spec_trees.specs.Tree.{depth}
use Rattle.term_tree.specs.Bank.{tree_at}
use Rattle.clause_form.specs.Normality.{numbers_after}
use Rattle.clause_diffs.proofs.Counting.{leaves_at}
use Rattle.clause_form.proofs.normality.+after_term.Given as goal

abbrev pub decreases-after_term : goal.decreases-after_term
decreases-after_term g l = depth (tree_at (g.B.Bank.trees l.bank.now) l.id)

abbrev pub invariant-each : goal.invariant-each
invariant-each g l = l.found ≡ numbers_after l.fn.next (flat_map (leaves_at (g.B.Bank.trees l.bank)) (take l.argument-index l.arguments))
