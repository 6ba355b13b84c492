-- Parts of data values that are still to be taken.
use Rattle.std.specs.Prelude.{◌≡◌, ℕ, ◌+◌, ◌<◌, Bool, true, false, Option, List, ◌++◌, length, map}
use Rattle.spec_calculus.specs.Syntax.{Protocol}
use Rattle.spec_calculus.specs.Runs.{Step, Part}
use Rattle.spec_attack_runs.specs.Compiling.{State, all_stepped, new_parts}
use Rattle.spec_attack_runs.specs.Attack.{most_steps}

-- the step that takes the part of that number of the value at a place
abbrev pub part_step : ℕ × ℕ → Step
part_step (place, number) = Part place number

-- these steps were added, or there are more than are told
abbrev pub Adds : List Step → List (ℕ × ℕ) → List (ℕ × ℕ) → Bool → Type 0
Adds steps old new true = map part_step new ≡ map part_step old ++ steps
Adds steps old new false = most_steps < length old + length steps

-- what became known behind the first so many known values is taken apart
abbrev pub with_parts : Protocol → ℕ → State → Option State
with_parts P before st = all_stepped P (new_parts P before st) st
