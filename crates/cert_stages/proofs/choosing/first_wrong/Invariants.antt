use Rattle.std.proofs.Common.{drop}
use Rattle.cert_stages.specs.Answers.{numbered_at}
use Rattle.cert_stages.proofs.Numbers.{AreLooked}
use Rattle.cert_stages.proofs.choosing.first_wrong.Given as goal

abbrev pub invariant-each : goal.invariant-each
invariant-each g l = AreLooked l.checker.numbers.now (numbered_at (g.B.Bank.trees l.bank) l.checker.clauses.now) (drop l.k (numbered_at (g.B.Bank.trees l.bank) l.checker.clauses.now))
