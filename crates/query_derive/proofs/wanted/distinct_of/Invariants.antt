use Rattle.std.proofs.Common.{◌≡◌, nat_eq, take}
use Rattle.spec_clauses.specs.Norm.{distinct}
use Rattle.query_derive.proofs.wanted.distinct_of.Given as goal

abbrev pub invariant-loop-number : goal.invariant-loop-number
invariant-loop-number l = l.found.items ≡ distinct nat_eq (take l.number-index l.numbers)
