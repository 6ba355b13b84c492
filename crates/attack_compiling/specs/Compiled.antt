-- Instances that are compiled phase by phase.
use Rattle.std.specs.Prelude.{◌≡◌, ℕ, ◌≤◌, nat_eq, Option, None, Some, List, length, map, filter}
use Rattle.spec_calculus.specs.Syntax.{Protocol}
use Rattle.spec_calculus.specs.Runs as calculus
use Rattle.spec_attack_runs.specs.Source.{Source, stage_of}
use Rattle.spec_attack_runs.specs.Compiling.{State}
use Rattle.spec_attack_runs.specs.Attack.{all_compiled, compiled_steps, most_steps}
use Rattle.pi_model.specs.declared.steps.Step.{Step}
use Rattle.pi_model.specs.Steps.{step_of}

-- those of a phase
abbrev pub compile_in : Protocol → ℕ → List Source → State → Option State
compile_in P phase instances st = all_compiled P (filter (λ i. nat_eq (stage_of i) phase) instances) st

-- the steps that instances are compiled to, no more than are told
pub record AreCompiledTo (P : Protocol) (instances : List Source) (steps : List calculus.Step) : Type 0 where
  pub compiles : compiled_steps P instances ≡ Some steps
  pub short : length steps ≤ most_steps

abbrev pub CompilesTo : Protocol → List Source → Option (List Step) → Type 0
CompilesTo P instances (Some steps) = AreCompiledTo P instances (map step_of steps)
CompilesTo P instances None = (steps : List calculus.Step) → AreCompiledTo P instances steps → ⊥

-- they are no more than are told
abbrev pub AreFew : Option (List Step) → Type 0
AreFew None = Unit {0}
AreFew (Some steps) = length steps ≤ most_steps
