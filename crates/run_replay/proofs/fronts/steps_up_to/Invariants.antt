use Rattle.run_replay.proofs.Open.{IsUpTo}
use Rattle.run_replay.proofs.fronts.steps_up_to.Given as goal

abbrev pub invariant-loop-index : goal.invariant-loop-index
invariant-loop-index l = IsUpTo l.steps l.phase l.begun l.index
