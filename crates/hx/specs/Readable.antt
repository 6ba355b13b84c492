-- What each protocol that was read has.
use Rattle.spec_calculus.specs.Syntax.{Protocol}
use Rattle.spec_well_formed.specs.Limits.{IsWithinLimits}
use Rattle.spec_well_formed.specs.Rules.{HasProperRules}
use Rattle.spec_well_formed.specs.WellFormed.{IsWellScoped}
use Rattle.spec_well_formed.specs.Queries.{HasProperQueries}

-- it is within the limits, and its rules, its process and its queries are as the rules of scope leave them
pub record IsReadable (P : Protocol) : Type 0 where
  pub limits : IsWithinLimits P
  pub rules : HasProperRules P
  pub scoped : IsWellScoped P
  pub queries : HasProperQueries P
