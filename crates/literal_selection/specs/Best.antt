-- Where a selection stands, and how large the selected fact is.
use Rattle.std.specs.Prelude.{ℕ, ◌+◌, Option, option_map, List}
use Rattle.spec_terms.specs.Term.{Term}
use Rattle.spec_clauses.specs.Fact.{Fact, fact_size}
use Rattle.spec_clauses.specs.Selection.{Selection, select}
use Rattle.literal_selection.specs.declared.Best.{Best}

-- the place of what is selected of the hypotheses, from 0
abbrev pub selected_place : List (Fact Term) → Option ℕ
selected_place hs = option_map (λ at. at.index) (select hs)

-- a selection among the hypotheses from this place on, as it is remembered
abbrev pub remembered : ℕ → Option Selection → Option Best
remembered place o = option_map (λ at. record { place = place + at.index; size = fact_size at.fact }) o
