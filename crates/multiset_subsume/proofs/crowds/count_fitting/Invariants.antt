use Rattle.std.proofs.Common.{◌≤◌}
use Rattle.fact_placing.specs.Boards.{IsAsBefore}
use Rattle.multiset_subsume.proofs.crowds.count_fitting.Given as goal

abbrev pub invariant-each : goal.invariant-each
invariant-each g l = record {
  same : IsAsBefore l.fn.placing.binds.pairs l.placing.binds.pairs l.fn.placing.taken.items l.placing.taken.items;
  few : l.count ≤ l.p;
}
