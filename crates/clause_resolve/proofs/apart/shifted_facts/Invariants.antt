use Rattle.spec_terms.specs.Unifier.{moved}
use Rattle.spec_calculus.specs.Bounds.{most_symbols}
use Rattle.clause_form.proofs.Renumber.{AreRenumbered}
use Rattle.clause_resolve.proofs.apart.shifted_facts.Given as goal

abbrev pub invariant-each : goal.invariant-each
invariant-each g l = AreRenumbered (g.B.Bank.trees l.fn.bank) (g.B.Bank.trees l.bank) (moved most_symbols) l.facts l.fact-index l.items.items
