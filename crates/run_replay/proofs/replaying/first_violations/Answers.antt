use Rattle.std.proofs.Common.{◌+◌, ◌<◌, length, map, take, sym, subst, arith}
use Rattle.pi_model.specs.Steps.{step_of}
use Rattle.pi_tree.specs.Protocols.{protocol_of}
use Rattle.run_replay.specs.Replay.{AreFirstViolations}
use Rattle.run_replay.proofs.Violations.{one_query}
use Rattle.std.proofs.lemmas.Grind.{common_steps}
use Rattle.run_replay.proofs.replaying.first_violations.Goals as goal

pub loop-index-preserved : goal.loop-index-preserved
loop-index-preserved c =
    let within : c.loop-index.index < length c.args.protocol.now.queries = omega arith in
    let next = one_query (protocol_of c.args.protocol.now) (map step_of c.args.steps.now) c.loop-index.index c.loop-index.items.items c.in_ok-first_of.field-0 c.loop-index.invariant within c.in_ok-first_of.ensures in
    subst (AreFirstViolations (protocol_of c.args.protocol.now) (map step_of c.args.steps.now) (take (c.loop-index.index + 1) c.args.protocol.now.queries)) (sym c.in_ok-push.ensures.items) next

pub returns : goal.returns
returns c = grind (arith, common_steps)
