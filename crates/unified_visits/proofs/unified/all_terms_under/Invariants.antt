use Rattle.spec_terms.specs.Binding.{resolved}
use Rattle.unify_match.specs.Seen.{seen}
use Rattle.clause_form.proofs.Renumber.{IsRenumbered}
use Rattle.unified_visits.proofs.unified.all_terms_under.Given as goal

abbrev pub invariant-each : goal.invariant-each
invariant-each g l = IsRenumbered (g.B.Bank.trees l.fn.bank) (g.B.Bank.trees l.bank) (resolved (seen (g.B.Bank.trees l.fn.bank) l.binds.pairs)) l.terms l.term-index l.items.items
