use Rattle.std.proofs.Common.{◌≡◌, ◌≤◌, Some, List, length, map, sym, subst, arith}
use Rattle.std.proofs.lemmas.Grind.{common_steps}
use Rattle.std.proofs.lemmas.List.{length-map, take-map}
use Rattle.spec_calculus.specs.Runs.{Step, run}
use Rattle.pi_configurations.specs.Configurations.{configuration_of}
use Rattle.pi_model.specs.Errors.{refusal_of}
use Rattle.pi_model.specs.Steps.{step_of}
use Rattle.pi_tree.specs.Protocols.{protocol_of}
use Rattle.run_replay.specs.Replay.{IsDone, IsFirstRefused}
use Rattle.run_replay.proofs.Sometime.{front_violated, sometime_told, front_unrefused}
use Rattle.run_replay.proofs.violating.violates.Goals as goal

pub reach-requires-clause-fewer : goal.reach-requires-clause-fewer
reach-requires-clause-fewer c = grind (arith, common_steps)

pub returns-in-End-clause-violated : goal.returns-in-End-clause-violated
returns-in-End-clause-violated c =
    let P = protocol_of c.args.protocol.now in
    let count = c.open_count-count.result in
    let reached = rw c.in-End.is at c.in_ok-end.ensures in
    let ends = subst (λ (front : List Step). run P front ≡ Some (configuration_of c.in-End.end)) (sym (take-map step_of count c.args.steps.now)) reached.0.ends in
    front_violated P (map step_of c.args.steps.now) c.args.query count (configuration_of c.in-End.end) c.violated.result ends c.violated.ensures

pub returns-in-End-clause-all : goal.returns-in-End-clause-all
returns-in-End-clause-all c =
    let P = protocol_of c.args.protocol.now in
    let steps = map step_of c.args.steps.now in
    let count = c.open_count-count.result in
    let within : count ≤ length steps = omega (arith, length-map c.args.steps.now step_of) in
    let reached = rw c.in-End.is at c.in_ok-end.ensures in
    let front = subst (λ (l : List Step). IsDone P l (configuration_of c.in-End.end)) (sym (take-map step_of count c.args.steps.now)) reached.0 in
    sometime_told P steps c.args.query count (configuration_of c.in-End.end) c.violated.result within c.open_count-count.ensures.still_open (c.steps_only_add.ensures.violated P) front c.violated.ensures

pub returns-in-Refused-clause-all : goal.returns-in-Refused-clause-all
returns-in-Refused-clause-all c = λ done q found some.
    let P = protocol_of c.args.protocol.now in
    let count = c.open_count-count.result in
    let reached = rw c.in-Refused.is at c.in_ok-end.ensures in
    let front = subst (λ (l : List Step). IsFirstRefused P l c.in-Refused.field-0 (refusal_of c.in-Refused.field-1)) (sym (take-map step_of count c.args.steps.now)) reached in
    absurd (front_unrefused P (map step_of c.args.steps.now) count c.in-Refused.field-0 (refusal_of c.in-Refused.field-1) front done)
