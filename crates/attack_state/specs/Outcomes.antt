-- How a part of the compilation ends: with a state, or with none that has no more steps than are told.
use Rattle.std.specs.Prelude.{◌≡◌, ◌<◌, Bool, true, false, Option, None, Some, List, length}
use Rattle.spec_calculus.specs.Syntax.{Protocol}
use Rattle.spec_terms.specs.Term.{Term}
use Rattle.spec_attack_runs.specs.Compiling.{State}
use Rattle.spec_attack_runs.specs.Attack.{most_steps}
use Rattle.attack_state.specs.declared.state.State.{State as MadeState}
use Rattle.attack_state.specs.States.{IsRun, IsState}

-- it gives no state, or one of too many steps
abbrev pub IsStuck : (State → Option State) → State → Type 0
IsStuck f st = (next : State) → f st ≡ Some next → most_steps < length next.steps

-- it is done
pub record IsDoneBy (f : State → Option State) (st : State) (all : List Term) (ids : MadeState) : Type 0 where
  pub next : State
  pub gives : f st ≡ Some next
  pub is : IsState all ids next

-- it is done, or it is stuck
abbrev pub Does : (State → Option State) → State → List Term → MadeState → Bool → Type 0
Does f st all ids true = IsDoneBy f st all ids
Does f st all ids false = IsStuck f st

-- where it is done, the run goes on
abbrev pub GoesOn : Protocol → MadeState → Bool → Type 0
GoesOn P ids true = IsRun P ids
GoesOn P ids false = Unit {0}

-- the same where it gives something besides
pub record IsPlacedBy {A : Type 0} (f : State → Option (A × State)) (st : State) (all : List Term) (ids : MadeState) (found : A) : Type 0 where
  pub next : State
  pub gives : f st ≡ Some (found, next)
  pub is : IsState all ids next

abbrev pub Places : {A : Type 0} → (State → Option (A × State)) → State → List Term → MadeState → Option A → Type 0
Places f st all ids (Some found) = IsPlacedBy f st all ids found
Places {A} f st all ids None = (found : A) (next : State) → f st ≡ Some (found, next) → most_steps < length next.steps

abbrev pub PlacesOn : {A : Type 0} → Protocol → MadeState → Option A → Type 0
PlacesOn P ids (Some found) = IsRun P ids
PlacesOn P ids None = Unit {0}
