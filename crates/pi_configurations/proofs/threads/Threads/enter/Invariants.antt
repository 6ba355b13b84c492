use Rattle.std.proofs.Common.{◌≡◌, ◌++◌, map, take, drop}
use Rattle.pi_configurations.specs.Moves.{entered}
use Rattle.pi_configurations.proofs.threads.Threads.enter.Given as goal

abbrev pub invariant-loop-index : goal.invariant-loop-index
invariant-loop-index l = l.self ≡ map (entered l.phases l.number) (take l.index l.initial.self) ++ drop l.index l.initial.self
