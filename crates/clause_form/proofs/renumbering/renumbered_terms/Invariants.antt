use Rattle.clause_diffs.specs.Numbers.{placed}
use Rattle.clause_form.specs.Remembered.{AreRemembered}
use Rattle.clause_form.proofs.Renumber.{IsRenumbered}
use Rattle.clause_form.proofs.renumbering.renumbered_terms.Given as goal

abbrev pub invariant-each : goal.invariant-each
invariant-each g l = record {
  done : IsRenumbered (g.B.Bank.trees l.fn.bank) (g.B.Bank.trees l.bank) (placed l.order) l.terms l.term-index l.items.items;
  changes : AreRemembered (g.B.Bank.trees l.bank) (placed l.order) l.changes;
}
