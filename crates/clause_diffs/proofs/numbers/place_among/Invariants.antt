use Rattle.std.proofs.Common.{◌≡◌, ◌+◌, drop}
use Rattle.spec_clauses.specs.Norm.{place_of}
use Rattle.clause_diffs.proofs.numbers.place_among.Given as goal

abbrev pub invariant-each : goal.invariant-each
invariant-each l = place_of l.number l.numbers ≡ l.i + place_of l.number (drop l.i l.numbers)
