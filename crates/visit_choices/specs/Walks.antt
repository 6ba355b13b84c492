-- A `let` whose choices are looked at, and how far the walk to one of them has come.
use Rattle.std.specs.Prelude.{◌≡◌, ℕ, ◌+◌, ◌<◌, ◌≤◌, List, [], ◌∷◌, ◌++◌, Option, count_by, length, map, drop, take}
use Rattle.std.specs.Option.{is_some}
use Rattle.spec_calculus.specs.Syntax.{Ruled, Protocol}
use Rattle.spec_terms.specs.Term.{Term}
use Rattle.spec_translation.specs.Visit.{Visit}
use Rattle.spec_translation.specs.Choice.{EachGoesOn}
use Rattle.spec_translation.specs.Visited.{some_large}
use Rattle.spec_choice_walks.specs.Instructions.{Instruction, completions, choices_by}
use Rattle.term_values.specs.Instructions.{instruction_of}
use Rattle.pi_tree.specs.Patterns.{pattern_of}
use Rattle.visit_choices.specs.declared.choice.Choosing.{Choosing}
use Rattle.unified_visits.specs.declared.visit.Visit as source
use Rattle.visit_choices.specs.declared.row.Walk.{Walk}
use Rattle.visit_choices.specs.declared.ways.Looked.{Looked}
use Rattle.visit_choices.specs.declared.ways.Passed.{Passed}
use Rattle.unified_visits.specs.Places.{protocol_at}
use Rattle.unified_visits.specs.Short.{AreFitInstructions}
use Rattle.unified_visits.specs.Visits.{visit_at, IsVisitIn, NamesVisit}
use Rattle.visit_choices.specs.Ways.{PassesBy}
use Rattle.visit_choices.specs.RuledRows.{IsRowOf}

-- the instructions of the expression
abbrev pub instructions_of : Choosing → List Instruction
instructions_of choosing = map instruction_of choosing.instructions.now

-- its choices in order
abbrev pub choices_of : Choosing → List Ruled
choices_of choosing = completions (protocol_at choosing.place.now) (instructions_of choosing) []

-- the visit is one over the bank, the instructions are fit for it, and there are so many choices
pub record IsChoosingIn (all : List Term) (choosing : Choosing) : Type 0 where
  pub visit : IsVisitIn all choosing.visit.now
  pub fit : AreFitInstructions (protocol_at choosing.place.now) choosing.visit.now.next 0 (instructions_of choosing)
  pub count : choosing.count ≡ choices_by (protocol_at choosing.place.now) (instructions_of choosing)

-- Before these instructions the row is that of some parts; of the choices that the instructions leave, the one of the number is the first
-- that is looked for, and those from it on begin the list.
pub record IsAlong (P : Protocol) (w : source.Visit) (v : Visit) (later : List Instruction) (rs : List Ruled) (all : List Term) (walk : Walk) : Type 0 where
  pub parts : List Ruled
  pub row : IsRowOf P w v parts all walk.row
  pub fit : AreFitInstructions P walk.row.next (length parts) later
  pub left : walk.left ≡ choices_by P later
  pub within : walk.number < walk.left
  pub more : List Ruled
  pub are : rs ≡ drop walk.number (completions P later parts) ++ more

-- it stands before that instruction and some others
abbrev pub StandsBefore : Protocol → source.Visit → Instruction → List Term → Walk → Type 0
StandsBefore P w instruction all walk = (v : Visit) × (later : List Instruction) × (rs : List Ruled) × IsAlong P w v (instruction ∷ later) rs all walk

-- it stands at the end
abbrev pub StandsAtEnd : Protocol → source.Visit → List Term → Walk → Type 0
StandsAtEnd P w all walk = (v : Visit) × (rs : List Ruled) × IsAlong P w v [] rs all walk

-- The first of these choices are passed, as x goes on, which is the visit of the `let` but for its constraints: where x is that visit, the one
-- that goes on is named.
abbrev pub PassesFrom : Choosing → source.Visit → Visit → List Ruled → List Term → Passed → Type 0
PassesFrom choosing x v rs all passed = PassesBy (λ made w. x ≡ choosing.visit.now → NamesVisit all made w) (protocol_at choosing.place.now) v (pattern_of choosing.pattern.now) rs passed

-- so many choices are passed from the one of the number on, and what is found of them
pub record LooksAt (all : List Term) (choosing : Choosing) (number count : ℕ) (looked : Looked) : Type 0 where
  pub some : 0 < count
  pub within : number + count ≤ choosing.count
  pub outs : List (Option Visit)
  pub go : EachGoesOn (protocol_at choosing.place.now) (visit_at all choosing.visit.now) (pattern_of choosing.pattern.now) (take count (drop number (choices_of choosing))) outs
  pub large : some_large outs ≡ looked.large
  pub going : count_by is_some outs ≡ looked.going
  pub few : looked.going ≤ count

-- how all choices go on, whether one goes on with a visit that is too large, and how many go on
pub record HasChoices (all : List Term) (choosing : Choosing) (looked : Looked) : Type 0 where
  pub outs : List (Option Visit)
  pub go : EachGoesOn (protocol_at choosing.place.now) (visit_at all choosing.visit.now) (pattern_of choosing.pattern.now) (choices_of choosing) outs
  pub large : some_large outs ≡ looked.large
  pub going : count_by is_some outs ≡ looked.going
