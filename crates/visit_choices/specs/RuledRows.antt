-- Rows of parts of an expression whose rules are chosen: what the code has of them.
use Rattle.std.specs.Prelude.{◌≡◌, ℕ, ◌+◌, List, ◌++◌, length}
use Rattle.spec_calculus.specs.Syntax.{Ruled, Protocol}
use Rattle.spec_terms.specs.Term.{Term}
use Rattle.spec_clauses.specs.Variables.{AreBelow}
use Rattle.spec_translation.specs.Conversion.{Scope}
use Rattle.spec_translation.specs.Visit.{Visit}
use Rattle.spec_choice_walks.specs.Stage.{terms_of_row, arguments_of_row, sides_of_row, width_of_row}
use Rattle.clause_form.specs.Seen.{NameTerms}
use Rattle.unified_visits.specs.declared.visit.Visit as source
use Rattle.visit_choices.specs.declared.row.Row.{Row}
use Rattle.unified_visits.specs.Solving.{AreRowsApart, AreRowsSolved}
use Rattle.unified_visits.specs.Visits.{NamesVisit}

-- all terms of a row: what its parts are, the arguments of its rules, and their left sides
abbrev pub all_of_row : Protocol → Scope → ℕ → List Ruled → List Term
all_of_row P scope base parts = terms_of_row P scope base parts ++ (arguments_of_row P scope base parts ++ sides_of_row P scope base parts)

-- the rules of a row have as many arguments as left sides
abbrev pub IsEven : Protocol → Scope → ℕ → List Ruled → Type 0
IsEven P scope base parts = length (arguments_of_row P scope base parts) ≡ length (sides_of_row P scope base parts)

-- The ids name the terms of the parts, and the bindings are those that make the arguments of their rules the left sides. The variables of
-- rules are new to the visit, from its next one on, and all are below the one behind the row's next.
pub record IsRowOf (P : Protocol) (w : source.Visit) (v : Visit) (parts : List Ruled) (all : List Term) (row : Row) : Type 0 where
  pub visit : NamesVisit all w v
  pub terms : NameTerms all row.ids.items (terms_of_row P v.scope w.next parts)
  pub next_is : row.next ≡ w.next + width_of_row parts
  pub even : IsEven P v.scope w.next parts
  pub solved : AreRowsSolved all row.binds.pairs (arguments_of_row P v.scope w.next parts) (sides_of_row P v.scope w.next parts)
  pub below : AreBelow (row.next + 1) (all_of_row P v.scope w.next parts)

-- it is the row of some parts, at some visit
abbrev pub HasRow : Protocol → source.Visit → List Term → Row → Type 0
HasRow P w all row = (v : Visit) × (parts : List Ruled) × IsRowOf P w v parts all row

-- nothing makes the arguments of the rules the left sides
pub record IsApart (P : Protocol) (w : source.Visit) (v : Visit) (parts : List Ruled) : Type 0 where
  pub even : IsEven P v.scope w.next parts
  pub apart : AreRowsApart (arguments_of_row P v.scope w.next parts) (sides_of_row P v.scope w.next parts)
