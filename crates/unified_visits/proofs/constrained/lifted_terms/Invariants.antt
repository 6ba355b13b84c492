use Rattle.unified_visits.specs.Lifting.{lifted_by}
use Rattle.clause_diffs.proofs.Naming.{IsRenumbered}
use Rattle.unified_visits.proofs.constrained.lifted_terms.Given as goal

abbrev pub invariant-each : goal.invariant-each
invariant-each g l = IsRenumbered (g.B.Bank.trees l.fn.bank) (g.B.Bank.trees l.bank) (lifted_by (g.B.Bank.trees l.fn.bank) l.lift) l.terms l.term-index l.items.items
