-- What is visited, and how it ends.
use Rattle.std.specs.Prelude.{◌≡◌, ℕ, suc, false, Option, Some, None, List, [], ◌∷◌, map}
use Rattle.std.specs.List.{AllByRecursion}
use Rattle.spec_calculus.specs.Syntax.{Process, Pattern, Expression, Ruled, Protocol}
use Rattle.spec_calculus.specs.Choices.{choices}
use Rattle.spec_terms.specs.Term.{Term}
use Rattle.spec_clauses.specs.Fact.{Clause}
use Rattle.spec_translation.specs.Visit.{Visit}
use Rattle.spec_translation.specs.Course.{Outcome, Done, TooLarge, Finished}
use Rattle.spec_translation.specs.Choice.{EachGoesOn}
use Rattle.spec_translation.specs.Visited.{some_large, EachThen, Visited}
use Rattle.visit_choices.specs.declared.choice.Choosing.{Choosing}
use Rattle.process_visits.specs.declared.listing.Listing.{Listing}
use Rattle.visit_choices.specs.declared.ways.Way.{Way}
use Rattle.visit_choices.specs.declared.ways.Way.TheVariants as ways
use Rattle.process_visits.specs.Forms.{Lists}
use Rattle.unified_visits.specs.Places.{protocol_at}
use Rattle.unified_visits.specs.Visits.{visit_at, IsVisitIn, HasFewCopies}
use Rattle.visit_choices.specs.Walks.{choices_of, HasChoices}

-- a process at a point, the same whose visit is counted already, or a process once for each of these visits that is there
pub data Job : Type 0 where
  Once : (process : Process) → (point : ℕ) → (visit : Visit) → Job
  Uncounted : (process : Process) → (point : ℕ) → (visit : Visit) → Job
  Each : (process : Process) → (point : ℕ) → (outs : List (Option Visit)) → Job

-- the course of it
abbrev pub Runs : Protocol → Job → ℕ → Outcome → Type 0
Runs P (Once process point v) left out = Visited P process point v left out
Runs P (Uncounted process point v) left out = Visited P process point v (suc left) out
Runs P (Each process point outs) left out = EachThen (λ w. Visited P process point w) outs Finished left out

-- it is done, with what it adds behind what was there
pub record IsDone (P : Protocol) (job : Job) (all : List Term) (before after : Listing) : Type 0 where
  pub more : List (Clause Term)
  pub runs : Runs P job before.left (Done more after.left)
  pub lists : Lists all before after more

-- it is done, or a visit at the point is too large
abbrev pub Ends : Protocol → Job → List Term → Listing → Listing → Option ℕ → Type 0
Ends P job all before after None = IsDone P job all before after
Ends P job all before after (Some point) = Runs P job before.left (TooLarge point)

-- how choices go on one after the other, none with a visit that is too large
abbrev pub AreSmallWays : List Term → Way → List (Option Visit) → Type 0
AreSmallWays all ways.Nowhere outs = AllByRecursion (λ out. out ≡ None) outs
AreSmallWays all ways.Large outs = ⊥
AreSmallWays all (ways.Visit made) outs = outs ≡ Some (visit_at all made) ∷ []

-- the visit that goes on is one over the bank, below few copies
abbrev pub IsKnownWay : List Term → ℕ → Way → Type 0
IsKnownWay all point ways.Nowhere = Unit {0}
IsKnownWay all point ways.Large = Unit {0}
IsKnownWay all point (ways.Visit made) = IsVisitIn all made × HasFewCopies point made

-- the choices of a `let` are those of the expression, so many go on, and none with a visit that is too large
pub record IsSmallLet (all : List Term) (choosing : Choosing) (expression : Expression) (going : ℕ) : Type 0 where
  pub are : choices_of choosing ≡ map (λ c. c.ruled) (choices (protocol_at choosing.place.now) expression)
  pub small : HasChoices all choosing (record { large = false; going = going })

-- the process is visited once for each of these choices that goes on
pub record EndsEach (P : Protocol) (v : Visit) (pattern : Pattern) (rs : List Ruled) (process : Process) (point : ℕ) (all : List Term) (before after : Listing) (large : Option ℕ) : Type 0 where
  pub outs : List (Option Visit)
  pub go : EachGoesOn P v pattern rs outs
  pub small : some_large outs ≡ false
  pub ends : Ends P (Each process point outs) all before after large
