-- Protocols whose first query a row may ask about.
use Rattle.spec_calculus.specs.Syntax.{Protocol}
use Rattle.spec_well_formed.specs.Limits.{IsWithinLimits}
use Rattle.spec_well_formed.specs.Queries.{HasProperQueries}
use Rattle.pi_tree.specs.Accessors.{IsThere}
use Rattle.pi_tree.specs.declared.accessors.Kind.TheVariants.{Query}

-- within the limits, each query asks of what it may ask of, and there is a first one
pub record IsAsked (P : Protocol) : Type 0 where
  pub limits : IsWithinLimits P
  pub queries : HasProperQueries P
  pub there : IsThere P Query 1
