use Rattle.std.proofs.Common.{◌+◌, ◌/◌, ◌-◌, map, take, sym, subst, arith, true, false}
use Rattle.std.proofs.lemmas.List.{take-map}
use Rattle.pi_model.specs.Steps.{step_of}
use Rattle.pi_tree.specs.Protocols.{protocol_of}
use Rattle.run_replay.specs.Reached.{IsDoneSomewhere, TellsViolation}
use Rattle.run_replay.proofs.Violations.{IsBetween-true, IsBetween-false, IsBetween-end, front_somewhere}
use Rattle.std.proofs.lemmas.Grind.{common_steps}
use Rattle.run_replay.proofs.bisect.first_violation.Goals as goal

pub violated_after-requires-clause-done : goal.violated_after-requires-clause-done
violated_after-requires-clause-done c =
    let middle = c.loop-low.low + (c.loop-low.high - c.loop-low.low) / 2 in
    subst (IsDoneSomewhere (protocol_of c.args.protocol.now)) (take-map step_of middle c.args.steps.now) (front_somewhere _ _ middle c.requires.done)

pub loop-low-preserved-then-branch : goal.loop-low-preserved-then-branch
loop-low-preserved-then-branch c =
    let middle = c.loop-low.low + (c.loop-low.high - c.loop-low.low) / 2 in
    let told = subst (TellsViolation (protocol_of c.args.protocol.now) (map step_of (take middle c.args.steps.now)) c.args.query) c.if-branch.true c.in_ok-violated_after.ensures in
    let front = subst (λ steps. TellsViolation (protocol_of c.args.protocol.now) steps c.args.query true) (sym (take-map step_of middle c.args.steps.now)) told in
    IsBetween-true (protocol_of c.args.protocol.now) (map step_of c.args.steps.now) c.args.query c.loop-low.low c.loop-low.high middle c.loop-low.invariant (omega arith) (omega arith) front

pub loop-low-preserved : goal.loop-low-preserved
loop-low-preserved c =
    let middle = c.loop-low.low + (c.loop-low.high - c.loop-low.low) / 2 in
    let told = subst (TellsViolation (protocol_of c.args.protocol.now) (map step_of (take middle c.args.steps.now)) c.args.query) c.if-branch.false c.in_ok-violated_after.ensures in
    let front = subst (λ steps. TellsViolation (protocol_of c.args.protocol.now) steps c.args.query false) (sym (take-map step_of middle c.args.steps.now)) told in
    IsBetween-false (protocol_of c.args.protocol.now) (map step_of c.args.steps.now) c.args.query c.loop-low.low c.loop-low.high middle
    (λ q found. (c.steps_only_add.ensures.violated (protocol_of c.args.protocol.now) q, c.requires.still_open q found)) c.requires.done c.loop-low.invariant (omega arith) (omega arith) front

pub returns : goal.returns
returns c = IsBetween-end _ _ _ _ _ c.loop-low.invariant c.loop-low-test.false

pub violated_after-requires-clause-fewer : goal.violated_after-requires-clause-fewer
violated_after-requires-clause-fewer c = grind (arith, common_steps)

pub slice_bounds-violated_after-end : goal.slice_bounds-violated_after-end
slice_bounds-violated_after-end c = grind (arith, common_steps)
