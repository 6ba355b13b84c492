-- The clauses so far were read out.
use Rattle.std.proofs.Common.{◌≡◌, map, take, rc_value}
use Rattle.clause_form.specs.Seen.{clause_at}
use Rattle.shared_cert.proofs.spelling.spelled_clauses.Given as goal

abbrev pub invariant-each : goal.invariant-each
invariant-each g l = map rc_value l.items.items ≡ map (clause_at (g.B.Bank.trees l.bank)) (take l.clause-index l.clauses)
