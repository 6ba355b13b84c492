-- Certificates: clauses, and rows that show how they cover what they have to, so that nothing has to be searched for.
use Rattle.std.specs.Prelude.{◌≡◌, ℕ, ◌+◌, Bool, nat_eq, Option, Some, None, List, [], ◌∷◌, ◌++◌, length, map, flat_map}
use Rattle.spec_calculus.specs.Syntax.{Query, Secret, SecretNew, Correspondence, Protocol}
use Rattle.spec_calculus.specs.Points.{numbered}
use Rattle.spec_terms.specs.Term.{Term}
use Rattle.spec_clauses.specs.Fact.{Fact, Bad, Clause}
use Rattle.spec_clauses.specs.Selection.{Selection, select, is_solved}
use Rattle.spec_clauses.specs.Norm.{IsNormal}
use Rattle.spec_clauses.specs.Limits.{IsWithinLimit}
use Rattle.spec_clauses.specs.Subsumption.{RowHolds}
use Rattle.spec_derivations.specs.Choice.{choice_of, Placed, number_of}
use Rattle.spec_translation.specs.Goal.{event_variables}
use Rattle.spec_translation.specs.Satisfied.{GoalRowHolds}

-- The clauses, the cover rows and the goal rows. A cover row has the number of a clause, from 1, and positions; a goal row
-- the number of an alternative and positions.
pub record Certificate : Type 0 where
  pub clauses : List (Clause Term)
  pub rows : List (List ℕ)
  pub goals : List (List ℕ)

-- how many arguments `bad` has for the query
abbrev pub bad_arguments : Query → ℕ
bad_arguments (Secret message phase) = 0
bad_arguments (SecretNew point phase) = 0
bad_arguments (Correspondence left alternatives) = length (event_variables left)

-- where the fact is `bad`, it has so many arguments
abbrev pub HasArguments : ℕ → Fact Term → Type 0
HasArguments n (Bad ts) = length ts ≡ n
HasArguments n _ = Unit {0}

-- a clause of a certificate for the query: within the limit, its own norm, `bad` with the query's number of arguments
pub record IsInShape (q : Query) (c : Clause Term) : Type 0 where
  pub small : IsWithinLimit c
  pub normal : IsNormal c
  pub arguments : HasArguments (bad_arguments q) c.conclusion

-- the clause of the row's number subsumes the clause by the row's positions
abbrev pub CoverRowHolds : List (Clause Term) → List ℕ → Clause Term → Type 0
CoverRowHolds clauses [] c = ⊥
CoverRowHolds clauses (n ∷ positions) c = (general : Clause Term) × (numbered clauses n ≡ Some general) × RowHolds general c positions

-- the alternative of the row's number has its events at the row's positions
abbrev pub GoalHolds : Protocol → Query → List ℕ → Clause Term → Type 0
GoalHolds P (Correspondence left alternatives) (n ∷ positions) c = GoalRowHolds P left alternatives c n positions
GoalHolds P _ _ c = ⊥

-- a clause with its number
pub record Numbered : Type 0 where
  pub number : ℕ
  pub clause : Clause Term

abbrev pub numbered_from : ℕ → List (Clause Term) → List Numbered
numbered_from n [] = []
numbered_from n (c ∷ cs) = record { number = n; clause = c } ∷ numbered_from (n + 1) cs

-- What is chosen of numbered clauses: whether one rests, and of those that don't the hypothesis on which they are resolved.
pub record Choice : Type 0 where
  pub rests : Numbered → Bool
  pub chosen : Numbered → Option Selection

-- by selection: the first of the largest hypotheses, and solved clauses rest
abbrev pub by_selection : Choice
by_selection = record { rests = λ c. is_solved c.clause.hypotheses; chosen = λ c. select c.clause.hypotheses }

-- the number beside a clause, where numbers stand beside clauses in their order; 0 where none does
abbrev pub or_zero : Option ℕ → ℕ
or_zero None = 0
or_zero (Some n) = n

abbrev pub number_beside : List ℕ → Numbered → ℕ
number_beside numbers c = or_zero (numbered numbers c.number)

-- by these numbers
abbrev pub by_numbers : List ℕ → Choice
by_numbers numbers = record { rests = λ c. nat_eq (number_beside numbers c) 0; chosen = λ c. choice_of c.clause (number_beside numbers c) }

-- the clauses with them
abbrev pub placed_beside : List ℕ → Numbered → Placed
placed_beside numbers c = record { clause = c.clause; number = number_beside numbers c }

abbrev pub placed_by : List ℕ → List (Clause Term) → List Placed
placed_by numbers clauses = map (placed_beside numbers) (numbered_from 1 clauses)

-- the numbers by which a certificate chooses: what it says of a clause, and selection's number where it says nothing
abbrev pub numbers_for : List (Clause Term) → List (Option ℕ) → List ℕ
numbers_for [] said = []
numbers_for (c ∷ cs) [] = number_of (select c.hypotheses) ∷ numbers_for cs []
numbers_for (c ∷ cs) (None ∷ said) = number_of (select c.hypotheses) ∷ numbers_for cs said
numbers_for (c ∷ cs) (Some n ∷ said) = n ∷ numbers_for cs said

-- the numbers that selection chooses by
abbrev pub selected_numbers : List (Clause Term) → List ℕ
selected_numbers clauses = numbers_for clauses []

-- a clause that rests, called solved, and one with a chosen hypothesis, called unsolved
pub record Pair : Type 0 where
  pub solved : Numbered
  pub unsolved : Numbered
  pub at : Selection

-- the pairs of a clause that rests with those that don't, in order
abbrev pub pairs_with : Numbered → Option Selection → Numbered → List Pair
pairs_with i None j = []
pairs_with i (Some at) j = record { solved = i; unsolved = j; at = at } ∷ []

abbrev pub pairs_of_resting : (Numbered → Option Selection) → Option Selection → Numbered → List Numbered → List Pair
pairs_of_resting chosen None i all = flat_map (λ j. pairs_with i (chosen j) j) all
pairs_of_resting chosen (Some at) i all = []

-- all pairs, clauses that rest ascending, and for each the others ascending
abbrev pub pairs_by : (Numbered → Option Selection) → List Numbered → List Numbered → List Pair
pairs_by chosen [] all = []
pairs_by chosen (i ∷ is) all = pairs_of_resting chosen (chosen i) i all ++ pairs_by chosen is all

-- the same by selection: the pairs of a solved clause with the unsolved ones, and all pairs
abbrev pub pairs_of_solved : Option Selection → Numbered → List Numbered → List Pair
pairs_of_solved o i all = pairs_of_resting by_selection.chosen o i all

abbrev pub pairs_of : List Numbered → List Numbered → List Pair
pairs_of is all = pairs_by by_selection.chosen is all
