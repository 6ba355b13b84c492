use Rattle.std.proofs.Common.{◌≤◌, length, map, sym, subst, arith}
use Rattle.std.proofs.lemmas.Grind.{common_steps}
use Rattle.std.proofs.lemmas.List.{length-map, take-map}
use Rattle.pi_model.specs.Steps.{step_of}
use Rattle.pi_tree.specs.Protocols.{protocol_of}
use Rattle.run_replay.specs.Reached.{IsDoneSomewhere, IsOpenAlong, TellsFirst}
use Rattle.run_replay.proofs.Open.{counted_open, front_told}
use Rattle.run_replay.proofs.Violations.{front_somewhere}
use Rattle.run_replay.proofs.replaying.first_before.Goals as goal

pub violated_after-requires-clause-done : goal.violated_after-requires-clause-done
violated_after-requires-clause-done c =
    subst (IsDoneSomewhere (protocol_of c.args.protocol.now)) (take-map step_of c.args.count c.args.steps.now) (front_somewhere _ _ c.args.count c.requires.done)

pub violated_after-requires-clause-fewer : goal.violated_after-requires-clause-fewer
violated_after-requires-clause-fewer c = grind (arith, common_steps)

pub first_in-requires-clause-done : goal.first_in-requires-clause-done
first_in-requires-clause-done c =
    subst (IsDoneSomewhere (protocol_of c.args.protocol.now)) (take-map step_of c.args.count c.args.steps.now) (front_somewhere _ _ c.args.count c.requires.done)

pub first_in-requires-clause-fewer : goal.first_in-requires-clause-fewer
first_in-requires-clause-fewer c = grind (arith, common_steps)

pub first_in-requires-clause-still_open : goal.first_in-requires-clause-still_open
first_in-requires-clause-still_open c =
    subst (λ steps. IsOpenAlong (protocol_of c.args.protocol.now) steps c.args.query) (take-map step_of c.args.count c.args.steps.now)
    (counted_open (protocol_of c.args.protocol.now) (map step_of c.args.steps.now) c.args.query c.args.count c.requires.still_open c.requires.done)

pub returns : goal.returns
returns c =
    let steps = map step_of c.args.steps.now in
    let within : c.args.count ≤ length steps = omega (arith, length-map c.args.steps.now step_of) in
    front_told (protocol_of c.args.protocol.now) steps c.args.query c.args.count c.in_ok-first.first within c.requires.still_open
    (subst (λ front. TellsFirst (protocol_of c.args.protocol.now) front c.args.query c.in_ok-first.first) (sym (take-map step_of c.args.count c.args.steps.now)) c.in_ok-first.ensures)
