use Rattle.std.proofs.Common.{◌+◌, ◌-◌, ◌<◌, ◌≤◌, take}
use Rattle.std.specs.List.{AllByRecursion}
use Rattle.unified_visits.proofs.spans.end_of.Given as goal

abbrev pub invariant-each : goal.invariant-each
invariant-each l = record {
  up : l.at.base ≤ l.end;
  room : AllByRecursion (λ i. l.at.base + (i - l.at.first) < l.end) (take l.number-index l.numbers);
}
