use Rattle.std.proofs.Common.{length}
use Rattle.std.specs.Prelude.{map}
use Rattle.pi_model.specs.Steps.{step_of}
use Rattle.run_replay.proofs.Reading.{IsSoFar}
use Rattle.run_replay.proofs.read.read_run.Given as goal

abbrev pub invariant-loop-rest : goal.invariant-loop-rest
invariant-loop-rest l = IsSoFar l.source l.number (map step_of l.items.items) l.rest

abbrev pub decreases-loop-rest : goal.decreases-loop-rest
decreases-loop-rest l = length l.rest
