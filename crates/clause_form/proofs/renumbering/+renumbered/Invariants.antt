use Rattle.spec_trees.specs.Tree.{depth}
use Rattle.term_tree.specs.Bank.{tree_at, symbol_of}
use Rattle.clause_diffs.specs.Numbers.{placed}
use Rattle.clause_form.specs.Remembered.{AreRemembered}
use Rattle.clause_form.proofs.Renumber.{IsStacked}
use Rattle.clause_form.proofs.renumbering.+renumbered.Given as goal

abbrev pub decreases-renumbered : goal.decreases-renumbered
decreases-renumbered g l = depth (tree_at (g.B.Bank.trees l.bank.now) l.id)

abbrev pub invariant-each : goal.invariant-each
invariant-each g l = record {
  stacked : IsStacked (g.B.Bank.trees l.fn.bank) (g.B.Bank.trees l.bank) (placed l.order) l.id (symbol_of l.symbol) l.count l.fn.stack.items l.stack.items l.i l.kept;
  changes : AreRemembered (g.B.Bank.trees l.bank) (placed l.order) l.changes;
}
