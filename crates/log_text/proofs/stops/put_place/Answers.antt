use Rattle.std.proofs.Common.{arith}
use Rattle.std.proofs.lemmas.Grind.{common_steps}
use Rattle.log_text.proofs.stops.put_place.Goals as goal

pub put_failure-requires : goal.put_failure-requires
put_failure-requires c = c.received.ensures c.args.stopped.now.bank.now c.requires.messages

pub try_place-tried-requires-clause-known : goal.try_place-tried-requires-clause-known
try_place-tried-requires-clause-known c = grind (arith, common_steps)

pub try_place-tried-requires-clause-limits : goal.try_place-tried-requires-clause-limits
try_place-tried-requires-clause-limits c = grind (arith, common_steps)
