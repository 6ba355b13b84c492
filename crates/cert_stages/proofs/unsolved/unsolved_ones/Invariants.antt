use Rattle.cert_stages.proofs.UnsolvedOnes.{AreFoundTo}
use Rattle.cert_stages.proofs.unsolved.unsolved_ones.Given as goal

abbrev pub invariant-each : goal.invariant-each
invariant-each g l = AreFoundTo (g.B.Bank.trees l.bank) l.checker.clauses.now l.checker.numbers.now l.found.items l.place
