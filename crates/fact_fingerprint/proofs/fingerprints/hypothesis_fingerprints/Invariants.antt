use Rattle.std.proofs.Common.{◌≡◌, map, option_map, take}
use Rattle.spec_fingerprints.specs.Fingerprints.{hypothesis_print}
use Rattle.clause_form.specs.Fit.{clauses_at}
use Rattle.fact_fingerprint.specs.Seen.{fingerprint_seen}
use Rattle.fact_fingerprint.proofs.fingerprints.hypothesis_fingerprints.Given as goal

abbrev pub invariant-each : goal.invariant-each
invariant-each g l = map (option_map fingerprint_seen) l.prints.items ≡ map hypothesis_print (clauses_at (g.B.Bank.trees l.bank) (take l.clause-index l.clauses))
