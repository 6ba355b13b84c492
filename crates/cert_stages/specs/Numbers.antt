-- The number beside a clause by what is said of it.
use Rattle.std.specs.Prelude.{ℕ, zero, suc, Option, Some, None, List, [], ◌∷◌}
use Rattle.spec_terms.specs.Term.{Term}
use Rattle.spec_clauses.specs.Fact.{Clause}
use Rattle.spec_clauses.specs.Selection.{select}
use Rattle.spec_derivations.specs.Choice.{number_of}

-- what is said at a place; nothing is past the end
abbrev pub said_at : List (Option ℕ) → ℕ → Option ℕ
said_at [] k = None
said_at (number ∷ said) zero = number
said_at (number ∷ said) (suc k) = said_at said k

-- the number that is said of a clause, and selection's where none is
abbrev pub number_for : Clause Term → Option ℕ → ℕ
number_for c None = number_of (select c.hypotheses)
number_for c (Some number) = number
