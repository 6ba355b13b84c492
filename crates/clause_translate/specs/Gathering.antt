-- Where what is visited comes from.
use Rattle.std.specs.Prelude.{◌≡◌, ℕ, Option, Some, None, List, [], ◌∷◌, ◌++◌, map}
use Rattle.spec_calculus.specs.Syntax.{Process, Pattern, Expression, Protocol}
use Rattle.spec_calculus.specs.Choices.{choices}
use Rattle.spec_terms.specs.Term.{Term}
use Rattle.spec_translation.specs.Visit.{Visit, first_visit}
use Rattle.spec_translation.specs.Choice.{EachGoesOn}
use Rattle.spec_attack_runs.specs.Source.{Choice, Taken, Source}
use Rattle.spec_attack_runs.specs.Gathered.{labelled, EachGathers, Gathers, attacker_sources}
use Rattle.process_visits.specs.declared.listing.Listing.{Listing}
use Rattle.visit_choices.specs.declared.ways.Way.{Way}
use Rattle.visit_choices.specs.declared.ways.Way.TheVariants as ways
use Rattle.process_visits.specs.Telling.{Told}
use Rattle.unified_visits.specs.Visits.{visit_at}

-- the sources of a process at a point are told, below the choices of the listing
pub record IsGathered (P : Protocol) (process : Process) (point : ℕ) (v : Visit) (before after : Listing) : Type 0 where
  pub more : List Source
  pub gathers : Gathers P process point before.choices v more
  pub told : Told more before after

-- and so, unless a visit was too large
abbrev pub Tells : Protocol → Process → ℕ → Visit → Listing → Listing → Option ℕ → Type 0
Tells P process point v before after None = IsGathered P process point v before after
Tells P process point v before after (Some large) = Unit {0}

-- those of a process below one choice more
pub record IsGatheredBelow (P : Protocol) (process : Process) (point : ℕ) (v : Visit) (choice : Choice) (before after : Listing) : Type 0 where
  pub more : List Source
  pub gathers : Gathers P process point (before.choices ++ choice ∷ []) v more
  pub told : Told more before after

abbrev pub TellsBelow : Protocol → Process → ℕ → Visit → Choice → Listing → Listing → Option ℕ → Type 0
TellsBelow P process point v choice before after None = IsGatheredBelow P process point v choice before after
TellsBelow P process point v choice before after (Some large) = Unit {0}

-- those of a process below the choice of that label, which goes that way; or none where it leads nowhere
abbrev pub TellsWay : Protocol → Process → ℕ → List Term → List ℕ → Way → Listing → Listing → Option ℕ → Type 0
TellsWay P process point all label ways.Nowhere before after large = Told [] before after
TellsWay P process point all label ways.Large before after large = Unit {0}
TellsWay P process point all label (ways.Visit made) before after large = TellsBelow P process point (visit_at all made) (Taken label) before after large

-- those of a process below each choice that goes on, in order
pub record AreGathered (P : Protocol) (v : Visit) (pattern : Pattern) (expression : Expression) (process : Process) (point : ℕ) (before after : Listing) : Type 0 where
  pub outs : List (Option Visit)
  pub go : EachGoesOn P v pattern (map (λ c. c.ruled) (choices P expression)) outs
  pub more : List Source
  pub gathers : EachGathers (λ choice w. Gathers P process point (before.choices ++ choice ∷ []) w) (labelled P expression) outs more
  pub told : Told more before after

abbrev pub TellsEach : Protocol → Visit → Pattern → Expression → Process → ℕ → Listing → Listing → Option ℕ → Type 0
TellsEach P v pattern expression process point before after None = AreGathered P v pattern expression process point before after
TellsEach P v pattern expression process point before after (Some large) = Unit {0}

-- the sources before the goal's: the attacker's, and those of the visits
pub record AreBefore (P : Protocol) (sources : List Source) : Type 0 where
  pub visited : List Source
  pub gathers : Gathers P P.main 1 [] first_visit visited
  pub are : sources ≡ attacker_sources P ++ visited
