use Rattle.clause_resolve.proofs.SpendingLaws.{AreApplied, standing}
use Rattle.clause_resolve.proofs.applying.applied_terms.Given as goal

abbrev pub invariant-each : goal.invariant-each
invariant-each g l = AreApplied (g.B.Bank.trees l.fn.bank) (g.B.Bank.trees l.bank) (standing (g.B.Bank.trees l.fn.bank) l.binds.pairs) l.terms l.term-index l.items.items l.fn.left l.left
