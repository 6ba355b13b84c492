-- Goal rows of a clause: the first in dictionary order (Blanchet 2016, section 3.2: correspondences).
use Rattle.std.specs.Prelude.{◌≡◌, ℕ, Some, List, ◌∷◌}
use Rattle.spec_calculus.specs.Syntax.{Query, Protocol}
use Rattle.spec_calculus.specs.Points.{numbered}
use Rattle.spec_terms.specs.Term.{Term}
use Rattle.spec_clauses.specs.Fact.{Clause}
use Rattle.spec_clauses.specs.Subsumption.{ComesBefore}
use Rattle.spec_certificates.specs.Certificate.{GoalHolds}
use Rattle.query_derive.specs.declared.rows.QueryRow.{QueryRow}

-- The row, the number of an alternative and then positions, holds, and none that holds comes before it.
pub record IsFirstGoalRow (P : Protocol) (q : Query) (c : Clause Term) (row : List ℕ) : Type 0 where
  pub holds : GoalHolds P q row c
  pub first : (other : List ℕ) → GoalHolds P q other c → ComesBefore other row → ⊥

-- what is so of the query of that number
abbrev pub OfQuery : Protocol → ℕ → (Query → Type 0) → Type 0
OfQuery P number Fact = (q : Query) → numbered P.queries number ≡ Some q → Fact q

-- a row in one list
abbrev pub row_of : QueryRow → List ℕ
row_of row = row.alternative ∷ row.positions
