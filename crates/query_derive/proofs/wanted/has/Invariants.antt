use Rattle.std.proofs.Common.{◌≡◌, nat_eq, drop}
use Rattle.std.specs.List.{list_any}
use Rattle.query_derive.proofs.wanted.has.Given as goal

abbrev pub invariant-loop-one : goal.invariant-loop-one
invariant-loop-one l = list_any (nat_eq l.number) l.numbers ≡ list_any (nat_eq l.number) (drop l.one-index l.numbers)
