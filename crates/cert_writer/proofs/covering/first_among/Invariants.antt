use Rattle.clause_form.specs.Seen.{clause_at}
use Rattle.cert_writer.proofs.Classed.{NoneOf}
use Rattle.cert_writer.proofs.covering.first_among.Given as goal

abbrev pub invariant-each : goal.invariant-each
invariant-each g l = NoneOf (g.B.Bank.trees l.bank) l.writer.live.now (clause_at (g.B.Bank.trees l.bank) l.clause) l.places l.place-index
