use Rattle.std.proofs.Common.{◌≡◌, ◌++◌, take, flat_map}
use Rattle.spec_clauses.specs.Diff.{diff_variables}
use Rattle.clause_sources.proofs.constraints.add_diffs_variables.Given as goal

abbrev pub invariant-each : goal.invariant-each
invariant-each l = l.numbers.items ≡ l.fn.numbers.items ++ flat_map diff_variables (take l.diff-index l.diff-items)
