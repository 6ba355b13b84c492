-- What each form of process adds, and where it is too large.
use Rattle.std.specs.Prelude.{◌≡◌, ℕ, Bool, true, false, ◌||◌, Option, Some, None, List, [], ◌∷◌, ◌++◌}
use Rattle.std.specs.List.{list_any}
use Rattle.spec_calculus.specs.Syntax.{EventTerm, Pattern, Protocol}
use Rattle.spec_calculus.specs.Syntax as calculus
use Rattle.spec_calculus.specs.Limits.{compared}
use Rattle.spec_terms.specs.Term.{Term}
use Rattle.spec_clauses.specs.Fact.{Tab, Ev, Mev, Clause}
use Rattle.spec_clauses.specs.Limits.{is_large_raw}
use Rattle.spec_clauses.specs.Norm.{norms}
use Rattle.spec_clauses.specs.Renaming.{DifferInBound}
use Rattle.spec_translation.specs.Conversion.{Scope, term_in, Fresh}
use Rattle.spec_translation.specs.Visit.{Visit, is_large_term, is_large_visit, sent, raw_clause, IsFresh, after_input, event_terms, after_event, written_terms}
use Rattle.clause_form.specs.Seen.{NameClauses, IdClause, clause_at, IsClauseIn}
use Rattle.clause_form.specs.Fit.{AreLowWithinLimit}
use Rattle.process_visits.specs.declared.listing.Listing.{Listing}
use Rattle.unified_visits.specs.declared.visit.Visit as source
use Rattle.unified_visits.specs.Visits.{NamesVisit}

-- whether one of the terms is large in the scope
abbrev pub are_large_in : Protocol → Scope → List calculus.Term → Bool
are_large_in P scope terms = list_any (λ t. is_large_term (term_in P scope t)) terms

-- clauses with variables of low numbers stand behind those that were there, or none does where they aren't kept
pub record Lists (all : List Term) (before after : Listing) (more : List (Clause Term)) : Type 0 where
  pub made : List IdClause
  pub clauses : after.clauses ≡ before.clauses ++ made
  pub names : before.keeps ≡ true → NameClauses all made more
  pub low : before.keeps ≡ true → AreLowWithinLimit all made
  pub none : before.keeps ≡ false → made ≡ []
  pub keeps : after.keeps ≡ before.keeps

-- clauses were added, and no visit was counted
pub record Adds (all : List Term) (before after : Listing) (more : List (Clause Term)) : Type 0 where
  pub lists : Lists all before after more
  pub left : after.left ≡ before.left

-- the ids of the clause name the trees of that one, but for the numbers of bound variables
pub record ShowsClause (all : List Term) (c : IdClause) (tree : Clause Term) : Type 0 where
  pub known : IsClauseIn all c
  pub differ : DifferInBound (clause_at all c) tree

-- the raw clause of an output, and whether its visit is too large
abbrev pub output_raw : Protocol → Visit → calculus.Term → calculus.Term → Clause Term
output_raw P v channel message = raw_clause v (sent P v.phase (term_in P v.scope channel) (term_in P v.scope message))

abbrev pub is_large_output : Protocol → Visit → calculus.Term → calculus.Term → Bool
is_large_output P v channel message = are_large_in P v.scope (channel ∷ message ∷ []) || is_large_raw (output_raw P v channel message)

-- the raw clause of an entry of these terms, and whether the visit of an `insert` is too large
abbrev pub raw_insert : Visit → ℕ → List Term → Clause Term
raw_insert v table arguments = raw_clause v (Tab table arguments)

abbrev pub insert_raw : Protocol → Visit → ℕ → List calculus.Term → Clause Term
insert_raw P v table arguments = raw_insert v table (written_terms P v arguments)

abbrev pub is_large_insert : Protocol → Visit → ℕ → List calculus.Term → Bool
is_large_insert P v table arguments = are_large_in P v.scope arguments || is_large_raw (insert_raw P v table arguments)

-- the raw clause of an event with these arguments, the visit below it, and whether one of the two is too large
abbrev pub raw_event : Visit → ℕ → List Term → Clause Term
raw_event v event arguments = raw_clause v (Ev event arguments)

abbrev pub below_event : Visit → ℕ → List Term → Visit
below_event v event arguments = record v { hypotheses = v.hypotheses ++ Mev event arguments ∷ [] }

abbrev pub is_large_event_of : Visit → ℕ → List Term → Bool
is_large_event_of v event arguments = is_large_raw (raw_event v event arguments) || is_large_visit (below_event v event arguments)

-- the same where the event is visited
abbrev pub event_raw : Protocol → Visit → EventTerm → Clause Term
event_raw P v e = raw_event v e.event (event_terms P v e)

abbrev pub is_large_event : Protocol → Visit → EventTerm → Bool
is_large_event P v e = are_large_in P v.scope e.arguments || is_large_event_of v e.event (event_terms P v e)

-- the visit, or none where it is too large
abbrev pub IsSmallVisit : List Term → Visit → Option source.Visit → Type 0
IsSmallVisit all v None = is_large_visit v ≡ true
IsSmallVisit all v (Some made) = (is_large_visit v ≡ false) × NamesVisit all made v

-- what an event adds, and the visit below it, or none where one of the two is too large
pub record AddsEvent (P : Protocol) (v : Visit) (e : EventTerm) (all : List Term) (before after : Listing) (made : source.Visit) : Type 0 where
  pub small : is_large_event P v e ≡ false
  pub adds : Adds all before after (norms (event_raw P v e))
  pub names : NamesVisit all made (after_event P v e)

abbrev pub EventAdds : Protocol → Visit → EventTerm → List Term → Listing → Listing → Option source.Visit → Type 0
EventAdds P v e all before after None = is_large_event P v e ≡ true
EventAdds P v e all before after (Some made) = AddsEvent P v e all before after made

-- a visit of an input is too large
pub data IsLargeInput (P : Protocol) (v : Visit) (channel : calculus.Term) (pattern : Pattern) : Type 0 where
  evaluated : are_large_in P v.scope (channel ∷ compared pattern) ≡ true → IsLargeInput P v channel pattern
  received : are_large_in P v.scope (channel ∷ compared pattern) ≡ false → (at : Fresh) → IsFresh v pattern at → is_large_visit (after_input P v channel pattern at) ≡ true → IsLargeInput P v channel pattern

-- the visit below an input
pub record Receives (P : Protocol) (v : Visit) (channel : calculus.Term) (pattern : Pattern) (all : List Term) (made : source.Visit) : Type 0 where
  pub small : are_large_in P v.scope (channel ∷ compared pattern) ≡ false
  pub at : Fresh
  pub is_fresh : IsFresh v pattern at
  pub is_small : is_large_visit (after_input P v channel pattern at) ≡ false
  pub names : NamesVisit all made (after_input P v channel pattern at)
