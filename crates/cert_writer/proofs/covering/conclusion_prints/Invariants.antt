use Rattle.std.proofs.Common.{◌≡◌, map, take}
use Rattle.clause_form.specs.Fit.{clauses_at}
use Rattle.fact_fingerprint.specs.Seen.{fingerprint_seen}
use Rattle.cert_writer.specs.Ready.{conclusion_print}
use Rattle.cert_writer.proofs.covering.conclusion_prints.Given as goal

abbrev pub invariant-each : goal.invariant-each
invariant-each g l = map fingerprint_seen l.prints.items ≡ map conclusion_print (clauses_at (g.B.Bank.trees l.bank) (take l.clause-index l.clauses))
