use Rattle.clause_instances.proofs.Closes.{AreAdded, one_term}
use Rattle.clause_instances.proofs.closing.Closing.add_closed.Given as goal

abbrev pub invariant-each : goal.invariant-each
invariant-each g l = AreAdded one_term (g.B.Bank.trees l.fn.bank) (g.B.Bank.trees l.bank) l.self l.fn.made l.made l.trees l.tree-index l.small
