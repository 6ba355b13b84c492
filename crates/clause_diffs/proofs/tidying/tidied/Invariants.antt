use Rattle.std.proofs.Common.{length}
use Rattle.clause_diffs.specs.Diffs.{StartAt}
use Rattle.clause_diffs.proofs.Adding.{AreNumbered}
use Rattle.clause_diffs.proofs.tidying.tidied.Given as goal

abbrev pub invariant-each : goal.invariant-each
invariant-each g l = record {
  done : AreNumbered (g.B.Bank.trees l.fn.bank) (g.B.Bank.trees l.bank) l.order l.diffs l.diff-index l.made;
  first : StartAt (length l.order) l.made;
}
