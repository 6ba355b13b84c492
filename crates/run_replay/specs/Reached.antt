-- What the parts of a replay answer.
use Rattle.std.specs.Prelude.{◌≡◌, ◌↔◌, ℕ, Bool, IsTrue, List, length, take, Option, Some}
use Rattle.spec_calculus.specs.Syntax.{Protocol, Query}
use Rattle.spec_calculus.specs.Points.{numbered}
use Rattle.spec_calculus.specs.Runs.{Configuration, Step, run}
use Rattle.spec_calculus.specs.Secrecy.{IsOpen}
use Rattle.spec_calculus.specs.Phases.{open_steps}
use Rattle.pi_model.specs.Errors.{refusal_of}
use Rattle.pi_configurations.specs.Configurations.{configuration_of}
use Rattle.run_replay.specs.Replay.{IsDone, IsFirstRefused, IsViolatedAfter, IsFirstViolation}
use Rattle.run_replay.specs.declared.reach.Reached.{Reached}
use Rattle.run_replay.specs.declared.reach.Reached.TheVariants.{End, Refused}

-- what the steps reach: their end, or the first of them that is refused
abbrev pub IsReached : Protocol → List Step → Reached → Type 0
IsReached P steps (End end) = IsDone P steps (configuration_of end) × (end.steps ≡ length steps)
IsReached P steps (Refused number error) = IsFirstRefused P steps number (refusal_of error)

-- none of the steps is refused
abbrev pub IsDoneSomewhere : Protocol → List Step → Type 0
IsDoneSomewhere P steps = (end : Configuration) × IsDone P steps end

-- whether the query of that number is violated after the steps
abbrev pub TellsViolation : Protocol → List Step → ℕ → Bool → Type 0
TellsViolation P steps query is_violated =
    (q : Query) → numbered P.queries query ≡ Some q → IsTrue is_violated ↔ IsViolatedAfter P steps q (length steps)

-- the query of that number is violated after all the steps
abbrev pub IsViolatedAtEnd : Protocol → List Step → ℕ → Type 0
IsViolatedAtEnd P steps query = (q : Query) → numbered P.queries query ≡ Some q → IsViolatedAfter P steps q (length steps)

-- the first violation of the query of that number
abbrev pub TellsFirst : Protocol → List Step → ℕ → Option ℕ → Type 0
TellsFirst P steps query first = (q : Query) → numbered P.queries query ≡ Some q → IsFirstViolation P steps q first

-- the query is open after each number of the steps that can be made
abbrev pub IsOpenAfterEach : Protocol → List Step → Query → Type 0
IsOpenAfterEach P steps q = (count : ℕ) (d : Configuration) → run P (take count steps) ≡ Some d → IsOpen q d

-- the query of that number is
abbrev pub IsOpenAlong : Protocol → List Step → ℕ → Type 0
IsOpenAlong P steps query = (q : Query) → numbered P.queries query ≡ Some q → IsOpenAfterEach P steps q

-- the first steps of that count are those at whose ends the query of that number is open
abbrev pub IsOpenCount : Protocol → List Step → ℕ → ℕ → Type 0
IsOpenCount P steps query count = (q : Query) → numbered P.queries query ≡ Some q → take count steps ≡ open_steps q steps

-- the query is violated after some number of the steps
abbrev pub IsViolatedSometime : Protocol → List Step → Query → Type 0
IsViolatedSometime P steps q = (count : ℕ) × IsViolatedAfter P steps q count
