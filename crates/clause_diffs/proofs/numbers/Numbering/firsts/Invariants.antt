use Rattle.std.proofs.Common.{◌≡◌, nat_eq, take}
use Rattle.spec_clauses.specs.Norm.{distinct}
use Rattle.clause_diffs.proofs.numbers.Numbering.firsts.Given as goal

abbrev pub invariant-each : goal.invariant-each
invariant-each l = l.found.items ≡ distinct nat_eq (take l.i l.number-items)
