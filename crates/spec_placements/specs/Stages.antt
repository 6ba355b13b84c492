-- Stages of placing facts one after another, and what a later stage tells of an earlier one.
use Rattle.std.specs.Prelude.{◌↔◌, ℕ, Bool, List, ◌++◌}
use Rattle.spec_terms.specs.Term.{Term}
use Rattle.spec_terms.specs.Binding.{Binding}
use Rattle.spec_clauses.specs.Fact.{Fact}
use Rattle.spec_placements.specs.Placing.{Ending, HoldsFrom, IsFirstFrom}

-- the bindings, the positions that are taken, and the facts that aren't placed yet
pub record Stage : Type 0 where
  pub bindings : List Binding
  pub taken : List Bool
  pub unplaced : List (Fact Term)

-- The positions lead from one stage to another: what holds from there on holds, with these in front, from the first on,
-- and the other way round.
abbrev pub PlacesOn : List (Fact Term) → Ending → Stage → List ℕ → Stage → Type 0
PlacesOn hs ending start done now = (row : List ℕ) → HoldsFrom start.bindings start.taken hs start.unplaced ending (done ++ row) ↔ HoldsFrom now.bindings now.taken hs now.unplaced ending row

-- they are the first: the first row from there on makes, with these in front, the first row from the first stage on
abbrev pub PlacesFirst : List (Fact Term) → Ending → Stage → List ℕ → Stage → Type 0
PlacesFirst hs ending start done now = (row : List ℕ) → IsFirstFrom now.bindings now.taken hs now.unplaced ending row → IsFirstFrom start.bindings start.taken hs start.unplaced ending (done ++ row)
