-- The labels of the choices of a `let`, by the instructions of its expression.
use Rattle.std.specs.Prelude.{◌≡◌, ℕ, ◌≤◌, Option, Some, None, List, ◌∷◌, map, drop}
use Rattle.spec_calculus.specs.Bounds.{most_choices}
use Rattle.spec_calculus.specs.Syntax.{Builds, Calls, Expression, Protocol}
use Rattle.spec_calculus.specs.Choices.{choices, label_of}
use Rattle.spec_choice_walks.specs.Instructions.{Instruction, Push, Apply, choices_by}
use Rattle.spec_choice_walks.specs.Labels.{labels_by}
use Rattle.visit_choices.specs.declared.choice.Choosing.{Choosing}
use Rattle.unified_visits.specs.Places.{protocol_at}
use Rattle.visit_choices.specs.Walks.{instructions_of}

-- there are so many choices, and not too many
pub record IsCounted (choosing : Choosing) : Type 0 where
  pub is : choosing.count ≡ choices_by (protocol_at choosing.place.now) (instructions_of choosing)
  pub few : choosing.count ≤ most_choices

-- the item of that place, from 0
abbrev pub StandsAt : {A : Type 0} → List A → ℕ → A → Type 0
StandsAt {A} items place item = (later : List A) × (drop place items ≡ item ∷ later)

-- the rules of the choice of that number
abbrev pub AreRulesAt : Protocol → List Instruction → ℕ → List ℕ → Type 0
AreRulesAt P parts number rules = StandsAt (labels_by P parts) number rules

-- the label of the choice of that number of an expression
abbrev pub IsLabelAt : Protocol → Expression → ℕ → List ℕ → Type 0
IsLabelAt P e number label = StandsAt (map (λ c. label_of c.rules) (choices P e)) number label

-- the destructor that an instruction applies, if it does
abbrev pub called_by : Instruction → Option ℕ
called_by (Push term) = None
called_by (Apply (Builds f) count) = None
called_by (Apply (Calls d) count) = Some d
