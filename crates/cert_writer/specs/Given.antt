-- Clauses within the limit of size, whatever the numbers of their variables, as the given ones are.
use Rattle.std.specs.Prelude.{List}
use Rattle.std.specs.List.{AllByRecursion}
use Rattle.spec_terms.specs.Term.{Term}
use Rattle.spec_clauses.specs.Limits.{IsWithinLimit}
use Rattle.clause_form.specs.Seen.{clause_at, IsClauseIn, IdClause}

-- the ids name a clause within the limit
pub record IsSmall (all : List Term) (c : IdClause) : Type 0 where
  pub known : IsClauseIn all c
  pub small : IsWithinLimit (clause_at all c)

-- and so do those of each of the clauses
abbrev pub AreSmall : List Term → List IdClause → Type 0
AreSmall all cs = AllByRecursion (IsSmall all) cs
