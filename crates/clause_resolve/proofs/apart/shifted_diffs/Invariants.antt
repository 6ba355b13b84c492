use Rattle.clause_resolve.proofs.Moving.{AreDiffsMoved}
use Rattle.clause_resolve.proofs.apart.shifted_diffs.Given as goal

abbrev pub invariant-each : goal.invariant-each
invariant-each g l = AreDiffsMoved (g.B.Bank.trees l.fn.bank) (g.B.Bank.trees l.bank) l.diffs l.diff-index l.items.items
