use Rattle.clause_diffs.specs.Places.{by_places}
use Rattle.clause_diffs.proofs.Naming.{IsRenumbered}
use Rattle.clause_diffs.proofs.tidying.numbered_terms.Given as goal

abbrev pub invariant-each : goal.invariant-each
invariant-each g l = IsRenumbered (g.B.Bank.trees l.fn.bank) (g.B.Bank.trees l.bank) (by_places l.places) l.terms l.term-index l.items.items
