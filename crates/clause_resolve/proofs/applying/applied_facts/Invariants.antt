use Rattle.clause_resolve.proofs.SpendingLaws.{FactsAreApplied, standing}
use Rattle.clause_resolve.proofs.applying.applied_facts.Given as goal

abbrev pub invariant-each : goal.invariant-each
invariant-each g l = FactsAreApplied (g.B.Bank.trees l.fn.bank) (g.B.Bank.trees l.bank) (standing (g.B.Bank.trees l.fn.bank) l.binds.pairs) l.facts l.fact-index l.items.items l.fn.left l.left
