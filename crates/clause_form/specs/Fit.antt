-- Clauses that are fit for resolution: each its own norm within the limit of size, with variables of low numbers.
use Rattle.std.specs.Prelude.{List, [], ◌∷◌, map}
use Rattle.std.specs.List.{AllByRecursion}
use Rattle.spec_calculus.specs.Bounds.{most_symbols}
use Rattle.spec_terms.specs.Term.{Term}
use Rattle.spec_clauses.specs.Fact.{Clause, clause_terms}
use Rattle.spec_clauses.specs.Norm.{IsNormal}
use Rattle.spec_clauses.specs.Limits.{IsWithinLimit}
use Rattle.spec_clauses.specs.Variables.{AreBelow}
use Rattle.clause_diffs.specs.Diffs.{AreDiffLeavesBelow}
use Rattle.clause_form.specs.Seen.{clause_at, IsClauseIn, IdClause}

-- the numbers of all variables, those that constraints bind too, are below the limit of size
pub record HasLowVariables (all : List Term) (c : IdClause) : Type 0 where
  pub facts : AreBelow most_symbols (clause_terms (clause_at all c))
  pub diffs : AllByRecursion (AreDiffLeavesBelow most_symbols all) c.diffs

-- they are so in a clause that is within the limit, as each norm that is made; and in each of the clauses
abbrev pub IsLowWithinLimit : List Term → IdClause → Type 0
IsLowWithinLimit all c = IsWithinLimit (clause_at all c) → HasLowVariables all c

abbrev pub AreLowWithinLimit : List Term → List IdClause → Type 0
AreLowWithinLimit all cs = AllByRecursion (IsLowWithinLimit all) cs

-- the ids name a clause that is its own norm within the limit, and its variables have low numbers
pub record IsFit (all : List Term) (c : IdClause) : Type 0 where
  pub known : IsClauseIn all c
  pub normal : IsNormal (clause_at all c)
  pub small : IsWithinLimit (clause_at all c)
  pub low : HasLowVariables all c

-- and so do those of each of the clauses
abbrev pub AreFit : List Term → List IdClause → Type 0
AreFit all [] = Unit {0}
AreFit all (c ∷ cs) = IsFit all c × AreFit all cs

-- the clauses that the ids name
abbrev pub clauses_at : List Term → List IdClause → List (Clause Term)
clauses_at all cs = map (clause_at all) cs
