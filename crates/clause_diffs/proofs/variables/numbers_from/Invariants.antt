use Rattle.std.proofs.Common.{◌≡◌, ◌-◌, not, nat_lt, map, filter, take}
use Rattle.clause_diffs.proofs.variables.numbers_from.Given as goal

abbrev pub invariant-loop-number : goal.invariant-loop-number
invariant-loop-number l = l.kept.items ≡ map (λ x. x - l.first) (filter (λ x. not (nat_lt x l.first)) (take l.number-index l.numbers))
