use Rattle.fact_placing.specs.Boards.{IsAsBefore}
use Rattle.multiset_subsume.proofs.parts.parts_may_stand.Given as goal

abbrev pub invariant-each : goal.invariant-each
invariant-each g l = IsAsBefore l.fn.placing.binds.pairs l.placing.binds.pairs l.fn.placing.taken.items l.placing.taken.items
