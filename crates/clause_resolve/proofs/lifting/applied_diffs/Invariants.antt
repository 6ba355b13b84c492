use Rattle.clause_resolve.proofs.SpendingLaws.{standing}
use Rattle.clause_resolve.proofs.LiftingLaws.{DiffsAreApplied}
use Rattle.clause_resolve.proofs.lifting.applied_diffs.Given as goal

abbrev pub invariant-each : goal.invariant-each
invariant-each g l = DiffsAreApplied (g.B.Bank.trees l.fn.bank) (g.B.Bank.trees l.bank) (standing (g.B.Bank.trees l.fn.bank) l.binds.pairs) l.diffs l.diff-index l.items.items l.fn.left l.left
