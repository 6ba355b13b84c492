use Rattle.clause_instances.proofs.Owning.{IsLeft}
use Rattle.clause_instances.proofs.resolved.telling_part.Given as goal

abbrev pub invariant-each : goal.invariant-each
invariant-each l = IsLeft l.fn.bank l.bank l.part-items l.number l.part-index l.left
