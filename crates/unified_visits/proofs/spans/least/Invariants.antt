use Rattle.std.proofs.Common.{◌≤◌, take}
use Rattle.std.specs.List.{AllByRecursion}
use Rattle.unified_visits.proofs.spans.least.Given as goal

abbrev pub invariant-each : goal.invariant-each
invariant-each l = AllByRecursion (λ i. l.found ≤ i) (take l.number-index l.numbers)
