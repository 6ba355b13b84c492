use Rattle.std.proofs.Common.{◌≡◌, map, take}
use Rattle.spec_clauses.specs.Diff.{diff_under, numbered_diff}
use Rattle.clause_diffs.specs.Numbers.{placed}
use Rattle.clause_sources.proofs.constraints.numbered_diffs.Given as goal

abbrev pub invariant-each : goal.invariant-each
invariant-each l = l.items.items ≡ map (λ d. diff_under (placed l.order) (numbered_diff d)) (take l.diff-index l.diff-items)
