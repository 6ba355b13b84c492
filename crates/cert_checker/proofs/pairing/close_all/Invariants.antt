use Rattle.cert_stages.proofs.Passing.{PassedAll}
use Rattle.cert_checker.proofs.pairing.close_all.Given as goal

abbrev pub invariant-each : goal.invariant-each
invariant-each g l = PassedAll (g.B.Bank.trees l.fn.bank) l.checker.clauses.now l.checker.numbers.now l.checker.rows.now l.from (g.B.Bank.trees l.bank) l.solved l.next
