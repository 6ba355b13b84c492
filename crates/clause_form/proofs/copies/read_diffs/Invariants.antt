use Rattle.std.proofs.Common.{◌≡◌, map, take}
use Rattle.clause_diffs.specs.Diffs.{diff_at}
use Rattle.clause_form.proofs.copies.read_diffs.Given as goal

abbrev pub invariant-loop-diff : goal.invariant-loop-diff
invariant-loop-diff g l = l.items.items ≡ map (diff_at (g.B.Bank.trees l.bank)) (take l.diff-index l.diffs)
