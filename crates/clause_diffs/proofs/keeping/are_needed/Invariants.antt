use Rattle.std.proofs.Common.{◌≡◌, map, drop}
use Rattle.std.specs.List.{list_all}
use Rattle.clause_diffs.specs.Diffs.{diff_at}
use Rattle.clause_diffs.specs.Needed.{is_needed_among}
use Rattle.clause_diffs.proofs.keeping.are_needed.Given as goal

abbrev pub invariant-loop-diff : goal.invariant-loop-diff
invariant-loop-diff g l = list_all (is_needed_among l.anchors) (map (diff_at (g.B.Bank.trees l.bank)) l.diffs) ≡ list_all (is_needed_among l.anchors) (map (diff_at (g.B.Bank.trees l.bank)) (drop l.diff-index l.diffs))
