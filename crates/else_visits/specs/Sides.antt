-- The sides of the constraint of a choice: what the code has of them, and how far the walk to the choice has come.
use Rattle.std.specs.Prelude.{◌≡◌, ◌+◌, ◌<◌, List, [], ◌∷◌, drop, length}
use Rattle.spec_calculus.specs.Syntax.{Ruled, Protocol}
use Rattle.spec_terms.specs.Term.{Term}
use Rattle.spec_translation.specs.Visit.{Visit}
use Rattle.spec_choice_walks.specs.Instructions.{Instruction, completions, choices_by}
use Rattle.spec_choice_walks.specs.Stage.{terms_of_row, arguments_of_row, sides_of_row, width_of_row}
use Rattle.clause_diffs.specs.Diffs.{NameTerms}
use Rattle.unified_visits.specs.declared.visit.Visit as source
use Rattle.else_visits.specs.declared.otherwise.Sides.{Sides}
use Rattle.else_visits.specs.declared.otherwise.SideWalk.{SideWalk}
use Rattle.unified_visits.specs.Short.{AreFitInstructions}
use Rattle.unified_visits.specs.Visits.{NamesVisit}

-- Of parts whose rules are chosen, the ids name the terms, the arguments of the rules, and the left sides of these. The variables of rules
-- are numbered from the visit's next one on.
pub record AreSidesOf (P : Protocol) (w : source.Visit) (v : Visit) (parts : List Ruled) (all : List Term) (sides : Sides) : Type 0 where
  pub visit : NamesVisit all w v
  pub terms : NameTerms all sides.ids.items (terms_of_row P v.scope w.next parts)
  pub left : NameTerms all sides.left.items (arguments_of_row P v.scope w.next parts)
  pub right : NameTerms all sides.right.items (sides_of_row P v.scope w.next parts)
  pub next_is : sides.next ≡ w.next + width_of_row parts

-- they are the sides of some parts, at some visit
abbrev pub HasSides : Protocol → source.Visit → List Term → Sides → Type 0
HasSides P w all sides = (v : Visit) × (parts : List Ruled) × AreSidesOf P w v parts all sides

-- and of one part alone
abbrev pub HasWholeSides : Protocol → source.Visit → List Term → Sides → Type 0
HasWholeSides P w all sides = (v : Visit) × (ruled : Ruled) × AreSidesOf P w v (ruled ∷ []) all sides

-- Before these instructions the sides are those of some parts, and of the choices that the instructions leave, the one of the number is
-- the choice that is looked for.
pub record IsAlongSides (P : Protocol) (w : source.Visit) (v : Visit) (later : List Instruction) (ruled : Ruled) (all : List Term) (walk : SideWalk) : Type 0 where
  pub parts : List Ruled
  pub sides : AreSidesOf P w v parts all walk.sides
  pub fit : AreFitInstructions P walk.sides.next (length parts) later
  pub left : walk.left ≡ choices_by P later
  pub within : walk.number < walk.left
  pub others : List Ruled
  pub is : drop walk.number (completions P later parts) ≡ ruled ∷ others

abbrev pub StandsBeforeSides : Protocol → source.Visit → Instruction → List Term → SideWalk → Type 0
StandsBeforeSides P w instruction all walk = (v : Visit) × (later : List Instruction) × (ruled : Ruled) × IsAlongSides P w v (instruction ∷ later) ruled all walk
