-- The translation of a protocol and a query into clauses (Blanchet 2016, section 3.3).
use Rattle.std.specs.Prelude.{◌≡◌, ℕ, List, ◌++◌, flat_map}
use Rattle.spec_calculus.specs.Syntax.{Query, Protocol}
use Rattle.spec_calculus.specs.Bounds.{most_visits}
use Rattle.spec_terms.specs.Term.{Term}
use Rattle.spec_clauses.specs.Fact.{Clause}
use Rattle.spec_clauses.specs.Norm.{norms}
use Rattle.spec_translation.specs.Attacker.{attacker_raw}
use Rattle.spec_translation.specs.Goal.{goal_raw}
use Rattle.spec_translation.specs.Visit.{first_visit}
use Rattle.spec_translation.specs.Course.{Outcome, Done, TooLarge}
use Rattle.spec_translation.specs.Visited.{Visited}

-- a translation: a list of clauses, or the point of the first visit that is too large
pub data Translated : Type 0 where
  Clauses : (clauses : List (Clause Term)) → Translated
  LargeAt : (point : ℕ) → Translated

-- the clauses of the attacker
abbrev pub attacker_clauses : Protocol → List (Clause Term)
attacker_clauses P = flat_map norms (attacker_raw P)

-- the goal: one clause
abbrev pub goal_clauses : Protocol → Query → List (Clause Term)
goal_clauses P q = norms (goal_raw P q)

-- the attacker's clauses, those of the visits, and the goal
abbrev pub whole : Protocol → Query → Outcome → Translated
whole P q (Done clauses left) = Clauses (attacker_clauses P ++ (clauses ++ goal_clauses P q))
whole P q (TooLarge point) = LargeAt point

-- what the protocol and the query are turned into
abbrev pub IsTranslation : Protocol → Query → Translated → Type 0
IsTranslation P q out = (outcome : Outcome) × Visited P P.main 1 first_visit most_visits outcome × (out ≡ whole P q outcome)
