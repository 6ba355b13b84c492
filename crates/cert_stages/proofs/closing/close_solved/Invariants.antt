use Rattle.cert_stages.proofs.Passing.{PassedWith}
use Rattle.cert_stages.proofs.closing.close_solved.Given as goal

abbrev pub invariant-each : goal.invariant-each
invariant-each g l = PassedWith (g.B.Bank.trees l.fn.bank) l.checker.clauses.now l.checker.numbers.now l.checker.rows.now l.from l.solved l.unsolved (g.B.Bank.trees l.bank) l.one-index l.next
