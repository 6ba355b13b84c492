-- Where a thread of a run stands, what a step changes in it, and why it is refused there.
use Rattle.std.specs.Prelude.{ℕ, ◌+◌, ◌≤◌, length}
use Rattle.spec_calculus.specs.Points.{nodes}
use Rattle.spec_calculus.specs.Runs.{Step}
use Rattle.pi_tree.specs.Processes.{process_of}
use Rattle.pi_tree.specs.Protocols.{protocol_of}
use Rattle.pi_configurations.specs.declared.changes.Change.{Change}
use Rattle.pi_model.specs.declared.errors.ApplyError.{ApplyError}
use Rattle.pi_model.specs.declared.running.Run.{Run}
use Rattle.pi_model.specs.declared.standing.Stand.{Stand}
use Rattle.pi_configurations.specs.Changes.{changed}
use Rattle.pi_configurations.specs.Configurations.{configuration_of}
use Rattle.pi_model.specs.Plans.{Stands, IsPossible, IsErrorOf}

-- the thread of that number stands there
abbrev pub StandsIn : Run → ℕ → Stand → Type 0
StandsIn run number at = Stands (protocol_of run.protocol.now) (configuration_of run.conf.now) number at.point at.environment.now (process_of at.process.now)

-- all points of what is there are points of the protocol
abbrev pub IsWithin : Run → Stand → Type 0
IsWithin run at = at.point + length (nodes (process_of at.process.now)) ≤ length (nodes (process_of run.protocol.now.main)) + 1

-- the step is possible, no value of it is large, and it makes this change
abbrev pub Changes : Run → Step → Change → Type 0
Changes run step change = IsPossible (protocol_of run.protocol.now) (configuration_of run.conf.now) step (changed change (configuration_of run.conf.now))

-- the error is the refusal of the step, or want of memory
abbrev pub Refuses : Run → Step → ApplyError → Type 0
Refuses run step e = IsErrorOf (protocol_of run.protocol.now) (configuration_of run.conf.now) step e
