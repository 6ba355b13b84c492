use Rattle.spec_terms.specs.Binding.{resolved}
use Rattle.unify_match.specs.Seen.{seen}
use Rattle.unified_visits.specs.Built.{AreBuilt}
use Rattle.unified_visits.proofs.Standing.{IsStanding}
use Rattle.unified_visits.proofs.unified.scope_under.Given as goal

abbrev pub invariant-each : goal.invariant-each
invariant-each g l = IsStanding (g.B.Bank.trees l.fn.bank) (g.B.Bank.trees l.bank) (resolved (seen (g.B.Bank.trees l.fn.bank) l.binds.pairs)) l.scope l.standing-index l.items.items × AreBuilt (g.B.Bank.trees l.bank) l.binds.pairs l.built
