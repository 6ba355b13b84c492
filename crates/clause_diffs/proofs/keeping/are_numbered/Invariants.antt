use Rattle.std.proofs.Common.{◌↔◌, drop}
use Rattle.clause_diffs.specs.Diffs.{diffs_at}
use Rattle.clause_diffs.proofs.Kept.{AreNumbered}
use Rattle.clause_diffs.proofs.keeping.are_numbered.Given as goal

abbrev pub invariant-loop-diff : goal.invariant-loop-diff
invariant-loop-diff g l = AreNumbered (diffs_at (g.B.Bank.trees l.bank) l.diffs) ↔ AreNumbered (diffs_at (g.B.Bank.trees l.bank) (drop l.diff-index l.diffs))
