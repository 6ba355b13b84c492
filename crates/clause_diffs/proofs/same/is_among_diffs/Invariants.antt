use Rattle.std.proofs.Common.{◌≡◌, map, drop}
use Rattle.std.specs.List.{list_any}
use Rattle.spec_clauses.specs.Diff.{same_diff}
use Rattle.clause_diffs.specs.Diffs.{diff_at}
use Rattle.clause_diffs.proofs.same.is_among_diffs.Given as goal

abbrev pub invariant-loop-one : goal.invariant-loop-one
invariant-loop-one g l =
    list_any (same_diff (diff_at (g.B.Bank.trees l.bank) l.diff)) (map (diff_at (g.B.Bank.trees l.bank)) l.diffs)
    ≡ list_any (same_diff (diff_at (g.B.Bank.trees l.bank) l.diff)) (map (diff_at (g.B.Bank.trees l.bank)) (drop l.one-index l.diffs))
