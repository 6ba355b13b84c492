use Rattle.clause_instances.proofs.Owning.{AreOwnSoFar}
use Rattle.clause_instances.proofs.resolved.own_terms.Given as goal

abbrev pub invariant-each : goal.invariant-each
invariant-each l = AreOwnSoFar l.met.binds.pairs l.raised l.fn.bank l.bank l.number-items l.number-index l.items.items
