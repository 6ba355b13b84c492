-- First rows: of all rows that show an obligation, the one that comes first in dictionary order.
use Rattle.std.specs.Prelude.{◌&&◌, ℕ, List, [], ◌∷◌, filter}
use Rattle.spec_calculus.specs.Syntax.{Query, Protocol}
use Rattle.spec_terms.specs.Term.{Term}
use Rattle.spec_clauses.specs.Fact.{Clause}
use Rattle.spec_clauses.specs.Selection.{is_solved}
use Rattle.spec_clauses.specs.Subsumption.{ComesBefore}
use Rattle.spec_translation.specs.Satisfied.{is_bad}
use Rattle.spec_certificates.specs.Certificate.{CoverRowHolds, GoalHolds}

-- The row, the number of a clause and then positions, shows that the list covers the clause, and none that shows it comes before: so the
-- least number of a clause that subsumes, and for it the first positions.
pub record IsFirstCover (clauses : List (Clause Term)) (c : Clause Term) (row : List ℕ) : Type 0 where
  pub holds : CoverRowHolds clauses row c
  pub first : (other : List ℕ) → CoverRowHolds clauses other c → ComesBefore other row → ⊥

-- the rows of clauses that are to be covered, one for each, in order
abbrev pub AreFirstCovers : List (Clause Term) → List (Clause Term) → List (List ℕ) → Type 0
AreFirstCovers clauses [] [] = Unit {0}
AreFirstCovers clauses [] (row ∷ rows) = ⊥
AreFirstCovers clauses (c ∷ cs) [] = ⊥
AreFirstCovers clauses (c ∷ cs) (row ∷ rows) = IsFirstCover clauses c row × AreFirstCovers clauses cs rows

-- The row, the number of an alternative and then positions, shows that the clause is satisfied, and none that shows it comes before.
pub record IsFirstGoal (P : Protocol) (q : Query) (c : Clause Term) (row : List ℕ) : Type 0 where
  pub holds : GoalHolds P q row c
  pub first : (other : List ℕ) → GoalHolds P q other c → ComesBefore other row → ⊥

-- the rows of clauses that are to be satisfied, one for each, in order
abbrev pub AreFirstGoals : Protocol → Query → List (Clause Term) → List (List ℕ) → Type 0
AreFirstGoals P q [] [] = Unit {0}
AreFirstGoals P q [] (row ∷ rows) = ⊥
AreFirstGoals P q (c ∷ cs) [] = ⊥
AreFirstGoals P q (c ∷ cs) (row ∷ rows) = IsFirstGoal P q c row × AreFirstGoals P q cs rows

-- the solved clauses that conclude `bad`
abbrev pub bad_clauses : List (Clause Term) → List (Clause Term)
bad_clauses cs = filter (λ c. is_solved c.hypotheses && is_bad c.conclusion) cs
