use Rattle.spec_trees.specs.Tree.{depth}
use Rattle.term_tree.specs.Bank.{tree_at}
use Rattle.clause_diffs.specs.Places.{by_places}
use Rattle.clause_diffs.proofs.Naming.{IsRenumbered}
use Rattle.clause_diffs.proofs.tidying.+numbered_term.Given as goal

abbrev pub decreases-numbered_term : goal.decreases-numbered_term
decreases-numbered_term g l = depth (tree_at (g.B.Bank.trees l.bank.now) l.id)

abbrev pub invariant-each : goal.invariant-each
invariant-each g l = IsRenumbered (g.B.Bank.trees l.fn.bank) (g.B.Bank.trees l.bank) (by_places l.places) l.part-items l.part-index l.made.items
