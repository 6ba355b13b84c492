use Rattle.std.proofs.Common.{◌≡◌, ◌+◌, ◌≤◌, drop}
use Rattle.spec_placements.specs.Crowds.{room}
use Rattle.multiset_subsume.proofs.crowds.room_of.Given as goal

abbrev pub invariant-each : goal.invariant-each
invariant-each l = record {
  sum : l.count + room (drop l.inside-index l.area) ≡ room l.area;
  few : l.count ≤ l.inside-index;
}
