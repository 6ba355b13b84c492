-- The steps of a run that are made up to a phase.
use Rattle.std.specs.Prelude.{ℕ, ◌+◌, nat_le, List, [], ◌∷◌, cond}
use Rattle.spec_calculus.specs.Syntax.{Query, Secret, SecretNew, Correspondence}
use Rattle.spec_calculus.specs.Runs.{Step}
use Rattle.spec_calculus.specs.Standing.{phases_begun}

-- how many phases begin with the steps
abbrev pub all_phases_begun : List Step → ℕ
all_phases_begun [] = 0
all_phases_begun (step ∷ steps) = phases_begun step + all_phases_begun steps

-- of steps that are made from the phase `now` on, those before a phase begins that is later than that one
abbrev pub steps_up_to : (phase now : ℕ) → List Step → List Step
steps_up_to phase now [] = []
steps_up_to phase now (step ∷ steps) = let then = now + phases_begun step in
    cond (nat_le then phase) (step ∷ steps_up_to phase then steps) []

-- of the steps of a run, those at whose ends the query is open
abbrev pub open_steps : Query → List Step → List Step
open_steps (Secret message phase) steps = steps_up_to phase 0 steps
open_steps (SecretNew point phase) steps = steps_up_to phase 0 steps
open_steps (Correspondence left alternatives) steps = steps
