use Rattle.clause_instances.proofs.Closes.{fact_terms, AreAdded}
use Rattle.clause_instances.proofs.given.add_facts.Given as goal

abbrev pub invariant-each : goal.invariant-each
invariant-each l = AreAdded fact_terms l.fn.bank l.bank l.closing l.fn.made l.made l.fact-items l.fact-index l.small
