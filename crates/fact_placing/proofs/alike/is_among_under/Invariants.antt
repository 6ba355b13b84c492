use Rattle.std.proofs.Common.{◌≡◌, map, drop}
use Rattle.std.specs.List.{list_any}
use Rattle.spec_clauses.specs.Diff.{same_diff}
use Rattle.clause_diffs.specs.Diffs.{diff_at}
use Rattle.fact_placing.specs.Matched.{diff_matched}
use Rattle.fact_placing.proofs.alike.is_among_under.Given as goal

abbrev pub invariant-loop-one : goal.invariant-loop-one
invariant-loop-one g l =
    list_any (same_diff (diff_matched (g.B.Bank.trees l.from.bank.now) l.from.binds.now.pairs l.from.first l.diff)) (map (diff_at (g.B.Bank.trees l.from.bank.now)) l.kept_in)
    ≡ list_any (same_diff (diff_matched (g.B.Bank.trees l.from.bank.now) l.from.binds.now.pairs l.from.first l.diff)) (map (diff_at (g.B.Bank.trees l.from.bank.now)) (drop l.one-index l.kept_in))
