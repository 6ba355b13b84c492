-- Protocols whose attacker and whose rules a row shows.
use Rattle.std.specs.List.{AllByRecursion}
use Rattle.spec_calculus.specs.Syntax.{Rule, Destructor, Protocol}
use Rattle.spec_well_formed.specs.Limits.{IsWithinLimits}
use Rattle.spec_well_formed.specs.Rules.{HasProperRules}
use Rattle.spec_well_formed.specs.WellFormed.{IsWellScoped}
use Rattle.clause_terms.specs.Conditions.{IsShortRule, HasRoomForRule}

-- within the limits, with proper rules, and in scope
pub record IsDeclared (P : Protocol) : Type 0 where
  pub limits : IsWithinLimits P
  pub rules : HasProperRules P
  pub scoped : IsWellScoped P

-- a rule that can be made terms of clauses, with variables from 5
pub record CanBeShown (rule : Rule) : Type 0 where
  pub short : IsShortRule rule
  pub room : HasRoomForRule 5 rule

abbrev pub CanAllBeShown : Destructor → Type 0
CanAllBeShown destructor = AllByRecursion CanBeShown destructor.rules
