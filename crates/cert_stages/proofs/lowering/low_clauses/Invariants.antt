use Rattle.cert_stages.proofs.Lowered.{AreLowered}
use Rattle.cert_stages.proofs.lowering.low_clauses.Given as goal

abbrev pub invariant-each : goal.invariant-each
invariant-each g l = AreLowered (g.B.Bank.trees l.fn.bank) (g.B.Bank.trees l.bank) l.items.items l.clauses l.clause-index
