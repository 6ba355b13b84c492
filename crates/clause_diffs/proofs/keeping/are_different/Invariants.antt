use Rattle.std.proofs.Common.{◌≡◌, drop}
use Rattle.clause_diffs.specs.Diffs.{diffs_at}
use Rattle.clause_diffs.specs.Needed.{differ}
use Rattle.clause_diffs.proofs.keeping.are_different.Given as goal

abbrev pub invariant-each : goal.invariant-each
invariant-each g l = differ (diffs_at (g.B.Bank.trees l.bank) l.diffs) ≡ differ (diffs_at (g.B.Bank.trees l.bank) (drop l.i l.diffs))
