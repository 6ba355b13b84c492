use Rattle.std.proofs.Common.{◌≡◌, take}
use Rattle.clause_diffs.proofs.diffs.Diffs.copy.Given as goal

abbrev pub invariant-loop-diff : goal.invariant-loop-diff
invariant-loop-diff l = l.items.items ≡ take l.diff-index l.diff-items
