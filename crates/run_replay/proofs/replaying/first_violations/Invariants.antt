use Rattle.std.proofs.Common.{map, take}
use Rattle.pi_model.specs.Steps.{step_of}
use Rattle.pi_tree.specs.Protocols.{protocol_of}
use Rattle.run_replay.specs.Replay.{AreFirstViolations}
use Rattle.run_replay.proofs.replaying.first_violations.Given as goal

abbrev pub invariant-loop-index : goal.invariant-loop-index
invariant-loop-index l = AreFirstViolations (protocol_of l.protocol) (map step_of l.steps) (take l.index l.protocol.queries) l.items.items
