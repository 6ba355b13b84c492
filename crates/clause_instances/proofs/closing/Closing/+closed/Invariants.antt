use Rattle.clause_instances.proofs.Closes.{AreClosedBy}
use Rattle.clause_instances.proofs.closing.Closing.+closed.Given as goal

abbrev pub invariant-each : goal.invariant-each
invariant-each g l = AreClosedBy (g.B.Bank.trees l.fn.bank) (g.B.Bank.trees l.bank) l.self l.ids.items l.argument-items l.argument-index
