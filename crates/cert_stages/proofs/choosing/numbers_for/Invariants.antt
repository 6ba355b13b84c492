use Rattle.clause_form.specs.Fit.{clauses_at}
use Rattle.cert_stages.proofs.Numbers.{AreNumbered}
use Rattle.cert_stages.proofs.choosing.numbers_for.Given as goal

abbrev pub invariant-each : goal.invariant-each
invariant-each g l = AreNumbered (clauses_at (g.B.Bank.trees l.bank) l.clauses) l.said l.k l.numbers.items
