-- Courses: how visits are counted, and how a visit that is too large ends them all.
use Rattle.std.specs.Prelude.{◌≡◌, ℕ, zero, suc, Bool, true, false, List, [], ◌++◌}
use Rattle.spec_terms.specs.Term.{Term}
use Rattle.spec_clauses.specs.Fact.{Clause}

-- how visits end: with the clauses that they add and so many visits left, or at a point where one is too large
pub data Outcome : Type 0 where
  Done : (clauses : List (Clause Term)) → (left : ℕ) → Outcome
  TooLarge : (point : ℕ) → Outcome

-- from so many visits left to an outcome
abbrev pub Course : Type 1
Course = ℕ → Outcome → Type 0

-- nothing more is visited
abbrev pub Finished : Course
Finished left out = out ≡ Done [] left

-- one visit is counted, at the point; where none is left, it is too large
abbrev pub Counted : ℕ → Course → Course
Counted point R zero out = out ≡ TooLarge point
Counted point R (suc left) out = R left out

-- the course, unless the visit at the point is too large
abbrev pub Unless : Bool → ℕ → Course → Course
Unless true point R left out = out ≡ TooLarge point
Unless false point R left out = R left out

-- the outcome with clauses in front
abbrev pub preceded : List (Clause Term) → Outcome → Outcome
preceded clauses (Done more left) = Done (clauses ++ more) left
preceded clauses (TooLarge point) = TooLarge point

-- after an outcome the course goes on, unless it has ended
abbrev pub After : Outcome → Course → Outcome → Type 0
After (Done clauses left) R out = (rest : Outcome) × R left rest × (out ≡ preceded clauses rest)
After (TooLarge point) R out = out ≡ TooLarge point

-- one course and then another
abbrev pub Then : Course → Course → Course
Then R S left out = (first : Outcome) × R left first × After first S out

-- clauses are added, and the course goes on
abbrev pub Adds : List (Clause Term) → Course → Course
Adds clauses R left out = After (Done clauses left) R out
