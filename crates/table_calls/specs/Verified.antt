-- Protocols whose queries can be verified.
use Rattle.spec_calculus.specs.Syntax.{Protocol}
use Rattle.spec_well_formed.specs.Limits.{IsWithinLimits}
use Rattle.spec_well_formed.specs.Queries.{HasProperQueries}
use Rattle.spec_well_formed.specs.Rules.{HasProperRules}
use Rattle.spec_well_formed.specs.WellFormed.{IsWellScoped}

-- within the limits, in scope, with proper rules and queries
pub record CanBeVerified (P : Protocol) : Type 0 where
  pub limits : IsWithinLimits P
  pub rules : HasProperRules P
  pub scoped : IsWellScoped P
  pub queries : HasProperQueries P
