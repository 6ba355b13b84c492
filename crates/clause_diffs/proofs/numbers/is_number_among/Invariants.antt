use Rattle.std.proofs.Common.{◌≡◌, nat_eq, drop}
use Rattle.std.specs.List.{list_any}
use Rattle.clause_diffs.proofs.numbers.is_number_among.Given as goal

abbrev pub invariant-loop-one : goal.invariant-loop-one
invariant-loop-one l = list_any (nat_eq l.number) l.numbers ≡ list_any (nat_eq l.number) (drop l.one-index l.numbers)
