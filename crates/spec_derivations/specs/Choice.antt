-- Clauses with a number each, which says what is chosen of their hypotheses: the one of that number is, or none, and then the clause rests
-- (resolution with free selection, Bachmair and Ganzinger 2001).
use Rattle.std.specs.Prelude.{◌≡◌, ◌⊎◌, ℕ, zero, suc, true, false, nat_eq, Option, Some, None, option_map, List, [], ◌∷◌, map, filter}
use Rattle.spec_terms.specs.Term.{Term}
use Rattle.spec_clauses.specs.Fact.{Fact, Clause, is_variable_known}
use Rattle.spec_clauses.specs.Selection.{Selection, is_selectable, is_solved, behind, select}
use Rattle.spec_clauses.specs.Inclusion.{Picks}

-- the hypothesis at a place, from 0, with the others in their order
abbrev pub at_place : List (Fact Term) → ℕ → Option Selection
at_place [] k = None
at_place (h ∷ hs) zero = Some (record { index = 0; fact = h; others = hs })
at_place (h ∷ hs) (suc k) = option_map (behind h) (at_place hs k)

-- what a number chooses: the hypothesis of that number, from 1; 0 chooses none
abbrev pub choice_of : Clause Term → ℕ → Option Selection
choice_of c zero = None
choice_of c (suc k) = at_place c.hypotheses k

-- a clause may rest where it is solved, or where it doesn't conclude `att` of a variable
abbrev pub CanRest : Clause Term → Type 0
CanRest c = (is_solved c.hypotheses ≡ true) ⊎ (is_variable_known c.conclusion ≡ false)

-- the number is right beside the clause: the clause may rest, or there is a hypothesis of that number, and it can be selected
abbrev pub IsRight : Clause Term → ℕ → Type 0
IsRight c zero = CanRest c
IsRight c (suc k) = (at : Selection) × (at_place c.hypotheses k ≡ Some at) × (is_selectable at.fact ≡ true)

-- one of the clause's hypotheses, which can be selected, with the others
pub record IsChosen (c : Clause Term) (at : Selection) : Type 0 where
  pub picked : Picks c.hypotheses at.fact at.others
  pub selectable : is_selectable at.fact ≡ true

-- a clause and the number beside it
pub record Placed : Type 0 where
  pub clause : Clause Term
  pub number : ℕ

-- the clauses without their numbers, and those that rest
abbrev pub clauses_in : List Placed → List (Clause Term)
clauses_in placed = map (λ p. p.clause) placed

abbrev pub resting_of : List Placed → List (Clause Term)
resting_of placed = clauses_in (filter (λ p. nat_eq p.number 0) placed)

-- the number of what is selected, from 1; 0 of nothing
abbrev pub number_of : Option Selection → ℕ
number_of None = 0
number_of (Some at) = suc at.index

-- a clause with the number of its selected hypothesis, and clauses with theirs: those that are solved rest
abbrev pub with_selected : Clause Term → Placed
with_selected c = record { clause = c; number = number_of (select c.hypotheses) }

abbrev pub all_selected : List (Clause Term) → List Placed
all_selected clauses = map with_selected clauses
