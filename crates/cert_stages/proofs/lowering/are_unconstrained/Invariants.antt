use Rattle.std.proofs.Common.{take}
use Rattle.cert_stages.specs.Lowering.{AreUnconstrained}
use Rattle.cert_stages.proofs.lowering.are_unconstrained.Given as goal

abbrev pub invariant-each : goal.invariant-each
invariant-each l = AreUnconstrained (take l.clause-index l.clauses)
