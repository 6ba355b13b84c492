-- Where the compilation of instances stops.
use Rattle.std.specs.Prelude.{◌≡◌, ℕ, ◌≤◌, nat_eq, true, cond, Option, None, Some, List, [], ◌∷◌, ◌++◌, length, map, filter, slice_get}
use Rattle.spec_calculus.specs.Syntax.{Protocol}
use Rattle.spec_terms.specs.Term.{Term}
use Rattle.spec_attack_runs.specs.Source.{Source, stage_of}
use Rattle.spec_attack_runs.specs.Compiling.{State, start_state}
use Rattle.spec_attack_runs.specs.Attack.{all_compiled, by_phase, compiled, most_steps}
use Rattle.attack_state.specs.Outcomes.{IsStuck, IsDoneBy}
use Rattle.attack_state.specs.States.{IsRun, IsState}
use Rattle.attack_compiling.specs.Compiled.{compile_in}
use Rattle.log_text.specs.declared.stops.Stop.{Stop}
use Rattle.hx.specs.declared.stopping.Stopped.{Stopped}
use Rattle.hx.specs.declared.stopping.Progress.{Progress}

-- Of instances in the order in which they are compiled, those at these places are compiled one after another, to so many steps, and the one
-- at that place, which is the next, can't be behind them: it gives no run, or one of more steps than are told.
pub record IsStop (P : Protocol) (instances : List Source) (places : List ℕ) (steps place : ℕ) : Type 0 where
  pub before : List Source
  pub next : Source
  pub after : List Source
  pub split : by_phase P instances ≡ before ++ next ∷ after
  pub before_at : map (slice_get instances) places ≡ map Some before
  pub next_at : slice_get instances place ≡ Some next
  pub so_far : State
  pub compiles : all_compiled P before (start_state P) ≡ Some so_far
  pub steps_are : length so_far.steps ≡ steps
  pub stops : IsStuck (compiled P next) so_far

-- all instances are compiled, to no more steps than are told
pub record AreAllCompiled (P : Protocol) (instances : List Source) : Type 0 where
  pub end : State
  pub compile : all_compiled P (by_phase P instances) (start_state P) ≡ Some end
  pub short : length end.steps ≤ most_steps

-- where the compilation of the instances stops, if it does
abbrev pub StopsAt : Protocol → List Source → Option Stop → Type 0
StopsAt P instances (Some stop) = IsStop P instances stop.compiled.items stop.steps stop.instance
StopsAt P instances None = AreAllCompiled P instances

-- so by how far the compilation came
abbrev pub StopsBy : Protocol → List Source → Progress → Option Stopped → Type 0
StopsBy P instances progress (Some stopped) = IsStop P instances progress.compiled.items stopped.steps stopped.instance
StopsBy P instances progress None = AreAllCompiled P instances

-- the instances of a phase
abbrev pub of_phase : ℕ → List Source → List Source
of_phase phase instances = filter (λ i. nat_eq (stage_of i) phase) instances

-- the instances at these places are those at the earlier ones, and then these
abbrev pub AreBehind : List Source → List ℕ → List Source → List ℕ → Type 0
AreBehind instances earlier added places = map (slice_get instances) places ≡ map (slice_get instances) earlier ++ map Some added

-- the instance of that index is compiled, where it is one of the phase
abbrev pub place_in : ℕ → Source → ℕ → List ℕ
place_in phase one index = cond (nat_eq (stage_of one) phase) (index ∷ []) []

pub record IsPlaced (P : Protocol) (phase : ℕ) (one : Source) (all : List Term) (st : State) (before after : Progress) (index : ℕ) : Type 0 where
  pub done : IsDoneBy (compile_in P phase (one ∷ [])) st all after.state
  pub places : after.compiled.items ≡ before.compiled.items ++ place_in phase one index

-- or it is one of the phase, and can't be
pub record StopsAtOne (P : Protocol) (phase : ℕ) (one : Source) (st : State) (before after : Progress) (index : ℕ) (stopped : Stopped) : Type 0 where
  pub is_one : nat_eq (stage_of one) phase ≡ true
  pub places : after.compiled.items ≡ before.compiled.items
  pub at : stopped.instance ≡ index
  pub steps : stopped.steps ≡ length before.state.steps.items
  pub stops : IsStuck (compile_in P phase (one ∷ [])) st

abbrev pub PlacesOne : Protocol → ℕ → Source → List Term → State → Progress → Progress → ℕ → Option Stopped → Type 0
PlacesOne P phase one all st before after index (Some stopped) = StopsAtOne P phase one st before after index stopped
PlacesOne P phase one all st before after index None = IsPlaced P phase one all st before after index

-- the compilation of a phase stops
pub record IsStopIn (P : Protocol) (phase : ℕ) (instances : List Source) (st : State) (earlier : List ℕ) (progress : Progress) (stopped : Stopped) : Type 0 where
  pub before : List Source
  pub next : Source
  pub after : List Source
  pub split : of_phase phase instances ≡ before ++ next ∷ after
  pub before_at : AreBehind instances earlier before progress.compiled.items
  pub next_at : slice_get instances stopped.instance ≡ Some next
  pub so_far : State
  pub compiles : all_compiled P before st ≡ Some so_far
  pub steps_are : length so_far.steps ≡ stopped.steps
  pub stops : IsStuck (compiled P next) so_far

-- or all of it is compiled
pub record IsPastPhase (P : Protocol) (phase : ℕ) (instances : List Source) (all : List Term) (st : State) (earlier : List ℕ) (progress : Progress) : Type 0 where
  pub at : AreBehind instances earlier (of_phase phase instances) progress.compiled.items
  pub next : State
  pub is : IsState all progress.state next
  pub compiles : all_compiled P (of_phase phase instances) st ≡ Some next

abbrev pub StopsIn : Protocol → ℕ → List Source → List Term → State → List ℕ → Progress → Option Stopped → Type 0
StopsIn P phase instances all st earlier progress (Some stopped) = IsStopIn P phase instances st earlier progress stopped
StopsIn P phase instances all st earlier progress None = IsPastPhase P phase instances all st earlier progress

-- where it doesn't stop, the run goes on
abbrev pub RunsOn : Protocol → Progress → Option Stopped → Type 0
RunsOn P progress (Some stopped) = Unit {0}
RunsOn P progress None = IsRun P progress.state
