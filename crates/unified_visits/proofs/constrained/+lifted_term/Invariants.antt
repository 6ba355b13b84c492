use Rattle.spec_trees.specs.Tree.{depth}
use Rattle.term_tree.specs.Bank.{tree_at}
use Rattle.unified_visits.specs.Lifting.{lifted_by}
use Rattle.clause_diffs.proofs.Naming.{IsRenumbered}
use Rattle.unified_visits.proofs.constrained.+lifted_term.Given as goal

abbrev pub decreases-lifted_term : goal.decreases-lifted_term
decreases-lifted_term g l = depth (tree_at (g.B.Bank.trees l.bank.now) l.id)

abbrev pub invariant-each : goal.invariant-each
invariant-each g l = IsRenumbered (g.B.Bank.trees l.fn.bank) (g.B.Bank.trees l.bank) (lifted_by (g.B.Bank.trees l.fn.bank) l.lift) l.part-items l.part-index l.made.items
