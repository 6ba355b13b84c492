use Rattle.unified_visits.proofs.Lifting.{AreLifted}
use Rattle.unified_visits.proofs.constrained.lifted_diffs.Given as goal

abbrev pub invariant-each : goal.invariant-each
invariant-each g l = AreLifted (g.B.Bank.trees l.fn.bank) l.binds.pairs l.diffs (g.B.Bank.trees l.bank) l.items.items l.diff-index
