-- How the choices of a `let` go on, as the code tells it.
use Rattle.std.specs.Prelude.{◌≡◌, ℕ, ◌<◌, ◌≤◌, Bool, true, false, Option, Some, None, List, [], ◌∷◌, length, map, take}
use Rattle.std.specs.List.{AllByRecursion}
use Rattle.spec_calculus.specs.Syntax.{Pattern, Ruled, Protocol}
use Rattle.spec_terms.specs.Term.{Term}
use Rattle.spec_translation.specs.Visit.{Visit, is_large_visit}
use Rattle.spec_translation.specs.Choice.{EachGoesOn}
use Rattle.unified_visits.specs.declared.visit.Visit as source
use Rattle.visit_choices.specs.declared.ways.Passed.{Passed}
use Rattle.visit_choices.specs.declared.ways.Way.{Way}
use Rattle.visit_choices.specs.declared.ways.Way.TheVariants as ways
use Rattle.unified_visits.specs.Visits.{NamesVisit}

-- whether choices go on nowhere, and whether the visit that goes on is too large
abbrev pub is_nowhere_way : Way → Bool
is_nowhere_way ways.Nowhere = true
is_nowhere_way ways.Large = false
is_nowhere_way (ways.Visit made) = false

abbrev pub is_large_way : Way → Bool
is_large_way ways.Nowhere = false
is_large_way ways.Large = true
is_large_way (ways.Visit made) = false

-- how many go on: none, or it is one
abbrev pub going_way : Way → ℕ
going_way ways.Nowhere = 0
going_way ways.Large = 1
going_way (ways.Visit made) = 1

-- how choices go on one after the other: nowhere, or it is one, whose visit is told so
abbrev pub AreWaysBy : (source.Visit → Visit → Type 0) → Way → List (Option Visit) → Type 0
AreWaysBy Tells ways.Nowhere outs = AllByRecursion (λ out. out ≡ None) outs
AreWaysBy Tells ways.Large outs = (w : Visit) × (outs ≡ Some w ∷ []) × (is_large_visit w ≡ true)
AreWaysBy Tells (ways.Visit made) outs = (w : Visit) × (outs ≡ Some w ∷ []) × (is_large_visit w ≡ false) × Tells made w

abbrev pub AreWays : List Term → Way → List (Option Visit) → Type 0
AreWays all way outs = AreWaysBy (NamesVisit all) way outs

-- the first of these choices, so many, are passed, and go on in that way
pub record PassesBy (Tells : source.Visit → Visit → Type 0) (P : Protocol) (v : Visit) (pattern : Pattern) (rs : List Ruled) (passed : Passed) : Type 0 where
  pub some : 0 < passed.count
  pub within : passed.count ≤ length rs
  pub outs : List (Option Visit)
  pub go : EachGoesOn P v pattern (take passed.count rs) outs
  pub ways : AreWaysBy Tells passed.way outs

abbrev pub Passes : Protocol → Visit → Pattern → List Ruled → List Term → Passed → Type 0
Passes P v pattern rs all passed = PassesBy (NamesVisit all) P v pattern rs passed

-- the first of these choices, so many, go nowhere
pub record AreCut (P : Protocol) (v : Visit) (pattern : Pattern) (rs : List Ruled) (count : ℕ) : Type 0 where
  pub some : 0 < count
  pub within : count ≤ length rs
  pub go : EachGoesOn P v pattern (take count rs) (map (λ r. None) (take count rs))
