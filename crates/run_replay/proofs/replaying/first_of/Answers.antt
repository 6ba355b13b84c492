use Rattle.std.proofs.Common.{◌≤◌, length, map, arith}
use Rattle.std.proofs.lemmas.List.{length-map}
use Rattle.pi_model.specs.Steps.{step_of}
use Rattle.pi_tree.specs.Protocols.{protocol_of}
use Rattle.pi_configurations.specs.Configurations.{configuration_of}
use Rattle.run_replay.proofs.Open.{whole_open}
use Rattle.run_replay.proofs.Violations.{tells_at_end}
use Rattle.run_replay.proofs.replaying.first_of.Goals as goal

pub first_before-requires-clause-done : goal.first_before-requires-clause-done
first_before-requires-clause-done c = (configuration_of c.args.end.now, c.requires.done)

pub first_in-requires-clause-done : goal.first_in-requires-clause-done
first_in-requires-clause-done c = (configuration_of c.args.end.now, c.requires.done)

pub first_in-requires-clause-still_open : goal.first_in-requires-clause-still_open
first_in-requires-clause-still_open c =
    let steps = map step_of c.args.steps.now in
    let all : length steps ≤ c.open_count-count.result = omega (arith, length-map c.args.steps.now step_of) in
    whole_open (protocol_of c.args.protocol.now) steps c.args.query c.open_count-count.result c.open_count-count.ensures.still_open all (configuration_of c.args.end.now, c.requires.done)

pub first_in-requires-clause-told : goal.first_in-requires-clause-told
first_in-requires-clause-told c =
    tells_at_end (protocol_of c.args.protocol.now) (map step_of c.args.steps.now) c.args.query (configuration_of c.args.end.now) c.violated-is_violated.result c.requires.done.ends c.violated-is_violated.ensures
