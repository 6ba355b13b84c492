-- A correspondence as facts: what a clause is to conclude, and for an alternative what is looked for among its hypotheses.
use Rattle.std.specs.Prelude.{◌≡◌, ℕ, Some, List, [], ◌∷◌, map}
use Rattle.spec_calculus.specs.Syntax.{Variable, EventTerm, Query, Secret, SecretNew, Correspondence, Protocol}
use Rattle.spec_calculus.specs.Points.{numbered}
use Rattle.spec_terms.specs.Term.{Term, Subst}
use Rattle.spec_clauses.specs.Fact.{Fact, Bad, Clause, fact_under}
use Rattle.spec_clauses.specs.Subsumption.{hypothesis_at, ComesBefore}
use Rattle.spec_translation.specs.Goal.{query_leaf, event_variables, required}

pub record Sought : Type 0 where
  pub conclusion : Fact Term
  pub events : List (Fact Term)

-- what the alternatives of a query are as facts, in order; of a secrecy query there are none
abbrev pub sought_for : Protocol → EventTerm → List EventTerm → Sought
sought_for P left alternative = record {
  conclusion = Bad (map (λ i. query_leaf (Variable i)) (event_variables left));
  events = map (required P) alternative;
}

abbrev pub all_sought : Protocol → Query → List Sought
all_sought P (Secret message phase) = []
all_sought P (SecretNew point phase) = []
all_sought P (Correspondence left alternatives) = map (sought_for P left) alternatives

-- under the substitution the events stand at the positions, one each
abbrev pub AreAt : Subst → List (Fact Term) → List (Fact Term) → List ℕ → Type 0
AreAt s events hypotheses row = map (λ e. Some (fact_under s e)) events ≡ map (hypothesis_at hypotheses) row

-- under one substitution the clause concludes what is sought, and the events stand at the positions
pub record IsRowFor (sought : Sought) (c : Clause Term) (row : List ℕ) : Type 0 where
  pub by : Subst
  pub conclusion : fact_under by sought.conclusion ≡ c.conclusion
  pub events : AreAt by sought.events c.hypotheses row

-- the positions are right, and none that are right come before them
pub record IsFirstRowFor (sought : Sought) (c : Clause Term) (row : List ℕ) : Type 0 where
  pub holds : IsRowFor sought c row
  pub first : (other : List ℕ) → IsRowFor sought c other → ComesBefore other row → ⊥

-- of what is sought, that of the row's number has the row's other numbers for positions
abbrev pub HoldsAmong : List Sought → Clause Term → List ℕ → Type 0
HoldsAmong all c [] = ⊥
HoldsAmong all c (number ∷ row) = (one : Sought) × (numbered all number ≡ Some one) × IsRowFor one c row

pub record IsFirstAmong (all : List Sought) (c : Clause Term) (row : List ℕ) : Type 0 where
  pub holds : HoldsAmong all c row
  pub first : (other : List ℕ) → HoldsAmong all c other → ComesBefore other row → ⊥
