-- Visits with the entries that `get`s take, and how these go on.
use Rattle.std.specs.Prelude.{◌≡◌, ℕ, Bool, true, false, ◌||◌, Option, Some, None, List, [], ◌∷◌}
use Rattle.spec_calculus.specs.Syntax.{Pattern, Condition, Protocol}
use Rattle.spec_calculus.specs.Syntax as calculus
use Rattle.spec_calculus.specs.Tables.{row_pattern}
use Rattle.spec_terms.specs.Term.{Term}
use Rattle.spec_translation.specs.Conversion.{free_term, term_in, Fresh}
use Rattle.spec_translation.specs.Visit.{Visit, is_large_visit, IsFresh, after_entry}
use Rattle.spec_translation.specs.Choice.{Choice, EntryGoesOn}
use Rattle.spec_translation.specs.Visited.{some_large}
use Rattle.unified_visits.specs.declared.visit.Visit as source
use Rattle.visit_choices.specs.declared.ways.Way.{Way}
use Rattle.visit_choices.specs.declared.ways.Way.TheVariants as ways
use Rattle.unified_visits.specs.Visits.{visit_at, IsVisitIn, NamesVisit}

-- the visit with an entry, with new variables for the patterns
pub record WithEntry (P : Protocol) (v : Visit) (table : ℕ) (patterns : List Pattern) (all : List Term) (made : source.Visit) : Type 0 where
  pub at : Fresh
  pub is_fresh : IsFresh v (row_pattern patterns) at
  pub visit : NamesVisit all made (after_entry P v table patterns at)

-- what has to become one where a condition is met
abbrev pub met_choice : Protocol → Visit → calculus.Term → calculus.Term → Choice
met_choice P w left right = record {
  arguments = term_in P w.scope left ∷ [];
  sides = term_in P w.scope right ∷ [];
  value = free_term 0;
  target = free_term 0;
  visit = w;
}

-- how a `get` goes on, whose condition is too large or not, and whose visit is this, if one
abbrev pub IsEntryWay : List Term → Bool → Option Visit → Way → Type 0
IsEntryWay all large out ways.Nowhere = (large ≡ false) × (out ≡ None)
IsEntryWay all large out ways.Large = (large || some_large (out ∷ [])) ≡ true
IsEntryWay all large out (ways.Visit made) = (large ≡ false) × (out ≡ Some (visit_at all made)) × (is_large_visit (visit_at all made) ≡ false) × IsVisitIn all made

pub record EntryGoes (P : Protocol) (v : Visit) (table : ℕ) (patterns : List Pattern) (condition : Condition) (all : List Term) (how : Way) : Type 0 where
  pub large : Bool
  pub out : Option Visit
  pub goes : EntryGoesOn P v table patterns condition large out
  pub way : IsEntryWay all large out how
