-- A protocol that is read is within the limits of a compilation and of a replay; instances are known as the bank grows.
use Rattle.std.proofs.Common.{arith}
use Rattle.pi_tree.specs.Protocols.{protocol_of}
use Rattle.attack_compiling.proofs.InPhases.{known-grow}
use Rattle.hx.proofs.Limits.{can_replay}
use Rattle.hx.proofs.reason.put_compiled.Goals as goal

pub stop_of-requires-clause-frees : goal.stop_of-requires-clause-frees
stop_of-requires-clause-frees c = omega (arith, c.requires.readable.limits.names)

pub stop_of-requires-clause-points : goal.stop_of-requires-clause-points
stop_of-requires-clause-points c = omega (arith, c.requires.readable.limits.points)

pub stop_of-requires-clause-phases : goal.stop_of-requires-clause-phases
stop_of-requires-clause-phases c = omega (arith, c.requires.readable.limits.phases)

pub put_stop-put-requires-clause-limited : goal.put_stop-put-requires-clause-limited
put_stop-put-requires-clause-limited c = can_replay (protocol_of c.args.unmet.setting.protocol.now) c.requires.readable

pub put_stop-put-requires-clause-known : goal.put_stop-put-requires-clause-known
put_stop-put-requires-clause-known c = known-grow c.args.bank.now c.stop_of.new.bank c.args.instances.now c.stop_of.ensures.grows c.requires.known
