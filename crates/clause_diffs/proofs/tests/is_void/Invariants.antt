use Rattle.std.proofs.Common.{◌≡◌, map, drop}
use Rattle.std.specs.List.{list_any}
use Rattle.spec_clauses.specs.DiffDecision.{is_never_met}
use Rattle.clause_diffs.specs.Diffs.{diff_at}
use Rattle.clause_diffs.proofs.tests.is_void.Given as goal

abbrev pub invariant-loop-diff : goal.invariant-loop-diff
invariant-loop-diff g l = list_any is_never_met (map (diff_at (g.B.Bank.trees l.bank)) l.diffs) ≡ list_any is_never_met (map (diff_at (g.B.Bank.trees l.bank)) (drop l.diff-index l.diffs))
