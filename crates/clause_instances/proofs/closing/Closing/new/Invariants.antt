use Rattle.clause_instances.proofs.Closes.{AreFirst}
use Rattle.clause_instances.proofs.closing.Closing.new.Given as goal

abbrev pub invariant-each : goal.invariant-each
invariant-each g l = AreFirst (g.B.Bank.trees l.fn.bank) (g.B.Bank.trees l.bank) l.given l.fn.number l.place l.number l.items.items
