use Rattle.std.proofs.Common.{map, subst}
use Rattle.pi_model.specs.Steps.{step_of}
use Rattle.pi_tree.specs.Protocols.{protocol_of}
use Rattle.run_replay.specs.Reached.{TellsViolation}
use Rattle.run_replay.proofs.Violations.{never_told, violated_told}
use Rattle.run_replay.proofs.replaying.first_in.Goals as goal

pub first_violation-requires-clause-violated : goal.first_violation-requires-clause-violated
first_violation-requires-clause-violated c =
    violated_told (protocol_of c.args.protocol.now) (map step_of c.args.steps.now) c.args.query
    (subst (TellsViolation (protocol_of c.args.protocol.now) (map step_of c.args.steps.now) c.args.query) c.if-is_violated.true c.requires.told)

pub returns-else-is_violated : goal.returns-else-is_violated
returns-else-is_violated c =
    never_told (protocol_of c.args.protocol.now) (map step_of c.args.steps.now) c.args.query
    (λ q found. (c.steps_only_add.ensures.violated (protocol_of c.args.protocol.now) q, c.requires.still_open q found)) c.requires.done
    (subst (TellsViolation (protocol_of c.args.protocol.now) (map step_of c.args.steps.now) c.args.query) c.if-is_violated.false c.requires.told)
