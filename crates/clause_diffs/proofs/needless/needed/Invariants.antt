use Rattle.std.proofs.Common.{◌≡◌, filter, take}
use Rattle.clause_diffs.specs.Diffs.{diff_at}
use Rattle.clause_diffs.specs.Needed.{is_needed_among}
use Rattle.clause_diffs.proofs.needless.needed.Given as goal

abbrev pub invariant-loop-diff : goal.invariant-loop-diff
invariant-loop-diff g l = l.kept ≡ filter (λ d. is_needed_among l.anchors (diff_at (g.B.Bank.trees l.bank) d)) (take l.diff-index l.diffs)
