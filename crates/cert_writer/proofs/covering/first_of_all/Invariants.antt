use Rattle.clause_form.specs.Seen.{clause_at}
use Rattle.spec_verdicts.proofs.Finding.{NoneBefore}
use Rattle.clause_form.specs.Fit.{clauses_at}
use Rattle.cert_writer.proofs.covering.first_of_all.Given as goal

abbrev pub invariant-each : goal.invariant-each
invariant-each g l = NoneBefore (clauses_at (g.B.Bank.trees l.bank) l.writer.live.now) (clause_at (g.B.Bank.trees l.bank) l.clause) l.place
