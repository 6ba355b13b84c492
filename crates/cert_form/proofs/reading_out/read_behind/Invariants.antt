-- The clauses so far were read out behind the others.
use Rattle.std.proofs.Common.{◌≡◌, ◌++◌, map, take, rc_value}
use Rattle.clause_form.specs.Seen.{clause_at}
use Rattle.cert_form.proofs.reading_out.read_behind.Given as goal

abbrev pub invariant-each : goal.invariant-each
invariant-each g l = map rc_value l.plain-inside.items.items ≡ l.fn.plain ++ map (clause_at (g.B.Bank.trees l.bank)) (take l.clause-index l.clauses)
