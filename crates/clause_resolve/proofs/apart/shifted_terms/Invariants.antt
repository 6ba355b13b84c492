use Rattle.spec_terms.specs.Unifier.{moved}
use Rattle.spec_calculus.specs.Bounds.{most_symbols}
use Rattle.clause_form.proofs.Renumber.{IsRenumbered}
use Rattle.clause_resolve.proofs.apart.shifted_terms.Given as goal

abbrev pub invariant-each : goal.invariant-each
invariant-each g l = IsRenumbered (g.B.Bank.trees l.fn.bank) (g.B.Bank.trees l.bank) (moved most_symbols) l.terms l.term-index l.items.items
