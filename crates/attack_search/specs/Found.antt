-- What a search tells.
use Rattle.std.specs.Prelude.{◌≡◌, ℕ, ◌<◌, ◌^◌, Option, None, Some, List, length}
use Rattle.spec_calculus.specs.Syntax.{Protocol, Query}
use Rattle.spec_calculus.specs.Points.{numbered}
use Rattle.spec_calculus.specs.Runs.{Step}
use Rattle.run_replay.specs.Reached.{IsViolatedSometime}
use Rattle.attack_search.specs.declared.searching.Searched as made

-- the steps can be made, the query of that number is violated behind some number of them, and they are fewer than 2^32
pub record IsAttack (P : Protocol) (query : ℕ) (steps : List Step) : Type 0 where
  pub violated : (q : Query) → numbered P.queries query ≡ Some q → IsViolatedSometime P steps q
  pub short : length steps < 2 ^ 32

abbrev pub IsAttackIn : Protocol → ℕ → Option (List Step) → Type 0
IsAttackIn P query (Some steps) = IsAttack P query steps
IsAttackIn P query None = Unit {0}

abbrev pub IsAttackWhereFound : Protocol → ℕ → made.Searched → Type 0
IsAttackWhereFound P query (made.TheVariants.Found steps) = IsAttack P query steps
IsAttackWhereFound P query (made.TheVariants.Nothing effort) = Unit {0}
