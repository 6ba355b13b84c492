-- What is asked of rules: what those of a protocol have that bytes spell.
use Rattle.std.specs.List.{AllByRecursion}
use Rattle.spec_calculus.specs.Syntax.{Rule, Destructor}
use Rattle.clause_terms.specs.Conditions.{IsShortRule, HasRoomForRule}

-- a rule that can be made terms of clauses, with variables from 0
pub record CanBeRenamed (rule : Rule) : Type 0 where
  pub short : IsShortRule rule
  pub room : HasRoomForRule 0 rule

abbrev pub CanAllBeRenamed : Destructor → Type 0
CanAllBeRenamed destructor = AllByRecursion CanBeRenamed destructor.rules
