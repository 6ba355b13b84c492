use Rattle.std.proofs.Common.{map, ◌-◌}
use Rattle.pi_model.specs.Steps.{step_of}
use Rattle.pi_tree.specs.Protocols.{protocol_of}
use Rattle.run_replay.proofs.Violations.{IsBetween}
use Rattle.run_replay.proofs.bisect.first_violation.Given as goal

abbrev pub invariant-loop-low : goal.invariant-loop-low
invariant-loop-low l = IsBetween (protocol_of l.protocol) (map step_of l.steps) l.query l.low l.high

abbrev pub decreases-loop-low : goal.decreases-loop-low
decreases-loop-low l = l.high - l.low
