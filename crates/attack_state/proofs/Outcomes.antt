-- How parts of the compilation end one after another.
use Rattle.std.proofs.Common.{◌≡◌, ◌<◌, ◌≤◌, Bool, true, false, List, length, Option, None, Some, IfSome, option_and_then, sym, ap, ◌∙◌, arith}
use Rattle.spec_calculus.proofs.Items.{of_then, if_some-is}
use Rattle.spec_attack_runs.specs.Compiling.{State}
use Rattle.spec_attack_runs.specs.Attack.{most_steps}
use Rattle.spec_terms.specs.Term.{Term}
use Rattle.attack_state.specs.declared.state.State.{State as MadeState}
use Rattle.attack_state.specs.Outcomes.{Does, Places}

pub nothing_stuck : (o : Option State) → o ≡ None → (next : State) → o ≡ Some next → most_steps < length next.steps
nothing_stuck o e next f = cc

-- what comes behind too many steps
abbrev pub NoFewer : (State → Option State) → Type 0
NoFewer f = (s : State) → IfSome (f s) (λ n. length s.steps ≤ length n.steps)

pub stuck_then : (f : State → Option State) (o : Option State) → NoFewer f → ((s : State) → o ≡ Some s → most_steps < length s.steps)
    → (next : State) → option_and_then f o ≡ Some next → most_steps < length next.steps
stuck_then f o longer stuck next e =
    let parts = of_then f o next e in
    let first = stuck parts.0 parts.1 in
    let second = if_some-is (λ (n : State). length parts.0.steps ≤ length n.steps) (f parts.0) next (longer parts.0) parts.2 in
    omega (arith, first, second)

-- the first part is done, and the second is stuck
pub stuck_behind : (f : State → Option State) (o : Option State) (s : State) → o ≡ Some s → ((n : State) → f s ≡ Some n → most_steps < length n.steps)
    → (next : State) → option_and_then f o ≡ Some next → most_steps < length next.steps
stuck_behind f o s e stuck next h =
    let parts = of_then f o next h in
    let same : parts.0 ≡ s = cc (parts.1, e) in
    stuck next (ap f (sym same) ∙ parts.2)

pub done_then : (f : State → Option State) (o : Option State) (s next : State) → o ≡ Some s → f s ≡ Some next → option_and_then f o ≡ Some next
done_then f o s next e h = ap (option_and_then f) e ∙ h

-- what ends likewise, and what ends as its second part
pub does_same : (f g : State → Option State) (st : State) (all : List Term) (ids : MadeState) → g st ≡ f st → (b : Bool) → Does f st all ids b → Does g st all ids b
does_same f g st all ids e true done = record { next = done.next; gives = e ∙ done.gives; is = done.is }
does_same f g st all ids e false stuck = λ next h. stuck next (sym e ∙ h)

pub does_behind : (f g : State → Option State) (o : Option State) (st s : State) (all : List Term) (ids : MadeState) → g st ≡ option_and_then f o → o ≡ Some s → (b : Bool) → Does f s all ids b → Does g st all ids b
does_behind f g o st s all ids e is true done = record { next = done.next; gives = e ∙ done_then f o s done.next is done.gives; is = done.is }
does_behind f g o st s all ids e is false stuck = λ next h. stuck_behind f o s is stuck next (sym e ∙ h)

-- likewise of what gives something besides
pub places_same : {A : Type 0} (f g : State → Option (A × State)) (st s : State) (all : List Term) (ids : MadeState) → g st ≡ f s → (r : Option A) → Places f s all ids r → Places g st all ids r
places_same f g st s all ids e (Some found) placed = record { next = placed.next; gives = e ∙ placed.gives; is = placed.is }
places_same f g st s all ids e None stuck = λ found next h. stuck found next (sym e ∙ h)

pub nothing_placed : {A : Type 0} (o : Option (A × State)) → o ≡ None → (found : A) (next : State) → o ≡ Some (found, next) → most_steps < length next.steps
nothing_placed o e found next f = cc
