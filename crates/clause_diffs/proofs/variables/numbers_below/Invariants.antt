use Rattle.std.proofs.Common.{◌≡◌, nat_lt, filter, take}
use Rattle.clause_diffs.proofs.variables.numbers_below.Given as goal

abbrev pub invariant-loop-number : goal.invariant-loop-number
invariant-loop-number l = l.kept.items ≡ filter (λ x. nat_lt x l.first) (take l.number-index l.numbers)
