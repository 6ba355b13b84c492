-- The rows so far, and those of the queries that are left, are the rows of all.
use Rattle.std.proofs.Common.{◌≡◌, ◌++◌, ◌+◌, drop, map}
use Rattle.run_chart.specs.Rows.{told_of, violations}
use Rattle.run_chart.proofs.drawing.add_violations.Given as goal

abbrev pub invariant-loop-index : goal.invariant-loop-index
invariant-loop-index l = map told_of l.rows.items ++ violations l.step (l.index + 1) (drop l.index l.setting.firsts.now) ≡ map told_of l.initial.rows.items ++ violations l.step 1 l.setting.firsts.now
