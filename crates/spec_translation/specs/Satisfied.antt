-- Satisfied clauses: a solved clause with conclusion `bad` that shows no violation of the query, since events that must have run
-- are those that the query asks for (Blanchet 2016, section 3.2: correspondences).
use Rattle.std.specs.Prelude.{◌≡◌, ℕ, Bool, true, false, Some, List, map}
use Rattle.std.specs.List.{AllByRecursion}
use Rattle.spec_calculus.specs.Syntax.{EventTerm, Query, Secret, SecretNew, Correspondence, Protocol}
use Rattle.spec_calculus.specs.Points.{numbered}
use Rattle.spec_terms.specs.Term.{Term, Subst}
use Rattle.spec_clauses.specs.Fact.{Fact, Bad, Clause, fact_under}
use Rattle.spec_clauses.specs.Selection.{is_solved}
use Rattle.spec_clauses.specs.Inclusion.{Has}
use Rattle.spec_clauses.specs.Subsumption.{hypothesis_at}
use Rattle.spec_translation.specs.Goal.{goal_raw, required}

-- whether a fact is `bad`
abbrev pub is_bad : Fact Term → Bool
is_bad (Bad ts) = true
is_bad _ = false

-- The left side's variables are what the arguments of `bad` are, and under one extension all events of an alternative are among the
-- hypotheses.
pub record IsMet (P : Protocol) (left : EventTerm) (alternatives : List (List EventTerm)) (c : Clause Term) : Type 0 where
  pub by : Subst
  pub conclusion : c.conclusion ≡ fact_under by (goal_raw P (Correspondence left alternatives)).conclusion
  pub alternative : List EventTerm
  pub listed : Has alternatives alternative
  pub events : AllByRecursion (λ e. Has c.hypotheses (fact_under by (required P e))) alternative

-- a secrecy query is satisfied by no clause
abbrev pub IsSatisfied : Protocol → Query → Clause Term → Type 0
IsSatisfied P (Secret message phase) c = ⊥
IsSatisfied P (SecretNew point phase) c = ⊥
IsSatisfied P (Correspondence left alternatives) c = IsMet P left alternatives c

-- each solved clause of the list with conclusion `bad` is satisfied
abbrev pub AreSatisfied : Protocol → Query → List (Clause Term) → Type 0
AreSatisfied P q clauses = (c : Clause Term) → Has clauses c → is_solved c.hypotheses ≡ true → is_bad c.conclusion ≡ true → IsSatisfied P q c

-- A goal row: the number of an alternative, and for each of its events the position of a hypothesis, from 1.
pub record GoalRowHolds (P : Protocol) (left : EventTerm) (alternatives : List (List EventTerm)) (c : Clause Term) (number : ℕ) (row : List ℕ) : Type 0 where
  pub by : Subst
  pub conclusion : c.conclusion ≡ fact_under by (goal_raw P (Correspondence left alternatives)).conclusion
  pub alternative : List EventTerm
  pub numbered_so : numbered alternatives number ≡ Some alternative
  pub events : map (λ e. Some (fact_under by (required P e))) alternative ≡ map (hypothesis_at c.hypotheses) row
