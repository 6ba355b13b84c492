-- Replaying a run: where it ends and since when each query is violated, or the first step that is refused.
use Rattle.std.specs.Prelude.{◌≡◌, ℕ, ◌-◌, ◌<◌, List, [], ◌∷◌, take, Option, Some, None}
use Rattle.spec_calculus.specs.Syntax.{Protocol, Query}
use Rattle.spec_calculus.specs.Points.{numbered}
use Rattle.spec_calculus.specs.Runs.{Configuration, Step, run}
use Rattle.spec_calculus.specs.Secrecy.{IsViolated}
use Rattle.spec_calculus.specs.Refusals.{Refusal}
use Rattle.spec_calculus.specs.Limits.{limited_refusal}

-- the step of that number, from 1, is refused in the configuration that the steps before it reach
pub record IsRefusedAt (P : Protocol) (steps : List Step) (number : ℕ) (refusal : Refusal) : Type 0 where
  pub before : Configuration
  pub step : Step
  pub reached : run P (take (number - 1) steps) ≡ Some before
  pub next : numbered steps number ≡ Some step
  pub refused : limited_refusal P before step ≡ Some refusal

-- and none before it is
pub record IsFirstRefused (P : Protocol) (steps : List Step) (number : ℕ) (refusal : Refusal) : Type 0 where
  pub refused : IsRefusedAt P steps number refusal
  pub first : (earlier : ℕ) (other : Refusal) → earlier < number → ¬ IsRefusedAt P steps earlier other

-- no step is refused, and the run ends in that configuration
pub record IsDone (P : Protocol) (steps : List Step) (end : Configuration) : Type 0 where
  pub ends : run P steps ≡ Some end
  pub none_refused : (number : ℕ) (refusal : Refusal) → ¬ IsRefusedAt P steps number refusal

-- after that many of the steps the query is violated
pub record IsViolatedAfter (P : Protocol) (steps : List Step) (q : Query) (count : ℕ) : Type 0 where
  pub configuration : Configuration
  pub reached : run P (take count steps) ≡ Some configuration
  pub violated : IsViolated q configuration

-- the least number of steps after which the query is violated, 0 where it is at the start; none where it is after no number of them
abbrev pub IsFirstViolation : Protocol → List Step → Query → Option ℕ → Type 0
IsFirstViolation P steps q (Some count) =
    IsViolatedAfter P steps q count × ((earlier : ℕ) → earlier < count → ¬ IsViolatedAfter P steps q earlier)
IsFirstViolation P steps q None = (count : ℕ) → ¬ IsViolatedAfter P steps q count

-- that of each query, in order
abbrev pub AreFirstViolations : Protocol → List Step → List Query → List (Option ℕ) → Type 0
AreFirstViolations P steps [] [] = Unit {0}
AreFirstViolations P steps [] (first ∷ firsts) = ⊥
AreFirstViolations P steps (q ∷ qs) [] = ⊥
AreFirstViolations P steps (q ∷ qs) (first ∷ firsts) = IsFirstViolation P steps q first × AreFirstViolations P steps qs firsts

-- what a replay shows
pub data Replay : Type 0 where
  -- the run ends so, and these are the queries' first violations
  Done : (end : Configuration) → (firsts : List (Option ℕ)) → Replay
  -- the step of that number is refused
  Stuck : (number : ℕ) → (refusal : Refusal) → Replay

-- it is what replaying the steps shows
abbrev pub IsReplayOf : Protocol → List Step → Replay → Type 0
IsReplayOf P steps (Done end firsts) = IsDone P steps end × AreFirstViolations P steps P.queries firsts
IsReplayOf P steps (Stuck number refusal) = IsFirstRefused P steps number refusal
