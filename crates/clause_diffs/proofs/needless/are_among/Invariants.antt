use Rattle.std.proofs.Common.{◌≡◌, nat_eq, drop}
use Rattle.std.specs.List.{list_any, list_all}
use Rattle.clause_diffs.proofs.needless.are_among.Given as goal

abbrev pub invariant-loop-number : goal.invariant-loop-number
invariant-loop-number l = list_all (λ x. list_any (nat_eq x) l.anchors) l.numbers ≡ list_all (λ x. list_any (nat_eq x) l.anchors) (drop l.number-index l.numbers)
