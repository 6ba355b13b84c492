-- Clauses that are normal, whatever the numbers of the variables that their constraints bind; and those without constraints.
use Rattle.std.specs.Prelude.{◌≡◌, List, []}
use Rattle.std.specs.List.{AllByRecursion}
use Rattle.spec_terms.specs.Term.{Term}
use Rattle.spec_clauses.specs.Norm.{IsNormal}
use Rattle.spec_clauses.specs.Limits.{IsWithinLimit}
use Rattle.clause_form.specs.Seen.{clause_at, IsClauseIn, IdClause}

-- the ids name a clause that is its own norm within the limit
pub record IsNormalIn (all : List Term) (c : IdClause) : Type 0 where
  pub known : IsClauseIn all c
  pub normal : IsNormal (clause_at all c)
  pub small : IsWithinLimit (clause_at all c)

-- and so do those of each of the clauses
abbrev pub AreNormalIn : List Term → List IdClause → Type 0
AreNormalIn all cs = AllByRecursion (IsNormalIn all) cs

-- none has constraints
abbrev pub AreUnconstrained : List IdClause → Type 0
AreUnconstrained cs = AllByRecursion (λ (c : IdClause). c.diffs ≡ []) cs
