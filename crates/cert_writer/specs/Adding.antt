-- Rows that are added to others: the first of clauses, and of what pairs give.
use Rattle.std.specs.Prelude.{◌≡◌, ℕ, true, Some, List, ◌++◌, flat_map}
use Rattle.spec_terms.specs.Term.{Term}
use Rattle.spec_clauses.specs.Fact.{Clause}
use Rattle.spec_clauses.specs.Selection.{Selection, select, is_solved}
use Rattle.spec_clauses.specs.Resolvents.{Answer, Resolves}
use Rattle.spec_clauses.specs.Inclusion.{Has}
use Rattle.spec_certificates.specs.Certificate.{Numbered, Pair, pairs_with, pairs_of_solved}
use Rattle.spec_saturation.specs.Live.{MustBeAnswered}
use Rattle.spec_verdicts.specs.FirstRows.{AreFirstCovers}
use Rattle.spec_verdicts.specs.First.{AllGive, all_pairs}

-- the rows after are those before, and then the first rows of these clauses
pub record AddsRows (clauses cs : List (Clause Term)) (before after : List (List ℕ)) : Type 0 where
  pub rows : List (List ℕ)
  pub are : after ≡ before ++ rows
  pub first : AreFirstCovers clauses cs rows

-- and then the first rows of what these pairs give
pub record AddsPairs (clauses : List (Clause Term)) (pairs : List Pair) (before after : List (List ℕ)) : Type 0 where
  pub made : List (Clause Term)
  pub give : AllGive pairs made
  pub adds : AddsRows clauses made before after

-- a clause with its number
abbrev pub with_number : ℕ → Clause Term → Numbered
with_number n c = record { number = n; clause = c }

-- the pair of a clause that is taken for solved and another one, if that is unsolved; with each of these; if it is solved, with each
abbrev pub pairs_of_two : ℕ → Clause Term → ℕ → Clause Term → List Pair
pairs_of_two i solved j unsolved = pairs_with (with_number i solved) (select unsolved.hypotheses) (with_number j unsolved)

abbrev pub pairs_of_one : ℕ → Clause Term → List Numbered → List Pair
pairs_of_one i solved all = flat_map (λ j. pairs_with (with_number i solved) (select j.clause.hypotheses) j) all

abbrev pub pairs_if_solved : ℕ → Clause Term → List Numbered → List Pair
pairs_if_solved i solved all = pairs_of_solved (select solved.hypotheses) (with_number i solved) all

-- what each solved clause gives with each unsolved one must be covered
abbrev pub MustClose : List (Clause Term) → Type 0
MustClose clauses = (i j : Clause Term) (at : Selection) (answer : Answer) → Has clauses i → Has clauses j → is_solved i.hypotheses ≡ true → select j.hypotheses ≡ Some at
    → Resolves i j at answer → MustBeAnswered clauses answer

-- the first rows of the given clauses, and then of what all pairs of the list give
pub record AreRowsOf (clauses given : List (Clause Term)) (rows : List (List ℕ)) : Type 0 where
  pub made : List (Clause Term)
  pub give : AllGive (all_pairs clauses) made
  pub covers : AreFirstCovers clauses (given ++ made) rows
