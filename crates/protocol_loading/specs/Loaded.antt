-- What each protocol that was loaded has.
use Rattle.spec_calculus.specs.Syntax.{Protocol}
use Rattle.spec_well_formed.specs.Limits.{IsWithinLimits}
use Rattle.spec_well_formed.specs.Rules.{HasProperRules}
use Rattle.spec_well_formed.specs.WellFormed.{IsWellScoped}
use Rattle.spec_well_formed.specs.Queries.{HasProperQueries}
use Rattle.spec_certificate_text.specs.OfProtocol.{HasNames}

-- it is within the limits, its rules, its process and its queries are as the rules of scope leave them, and its names are told apart
pub record IsLoaded (P : Protocol) : Type 0 where
  pub limits : IsWithinLimits P
  pub rules : HasProperRules P
  pub scoped : IsWellScoped P
  pub queries : HasProperQueries P
  pub names : HasNames P
