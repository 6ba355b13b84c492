use Rattle.clause_instances.proofs.Growing.{AreKnownInstances-grow}
use Rattle.instance_merging.proofs.rounds.settled.Goals as goal

pub returns-in-Settled-clause-known : goal.returns-in-Settled-clause-known
returns-in-Settled-clause-known c = AreKnownInstances-grow c.each.bank c.one_round.new.bank c.each.instances c.one_round.ensures.grows c.each.invariant.known
