-- Well-scoped protocols: their rules, process and queries.
use Rattle.std.specs.Prelude.{[]}
use Rattle.std.specs.List.{AllByRecursion}
use Rattle.spec_calculus.specs.Syntax.{Rule, Query, Secret, SecretNew, Correspondence, Protocol}
use Rattle.spec_well_formed.specs.Signature.{Signature, signature_of}
use Rattle.spec_well_formed.specs.Rules.{IsVariable}
use Rattle.spec_well_formed.specs.Queries.{IsDeclaredFree, IsFreeOrVariable}
use Rattle.spec_well_formed.specs.Terms.{IsTermOver, IsEventOver}
use Rattle.spec_well_formed.specs.Processes.{IsProcessBelow, ArePhasesOrdered}

-- the terms of a rule are over variables and the declared constructors
pub record IsRuleOver (signature : Signature) (rule : Rule) : Type 0 where
  pub left : AllByRecursion (IsTermOver signature IsVariable) rule.left
  pub right : IsTermOver signature IsVariable rule.right

-- the terms and events of a query are over its leaves and the declared names
abbrev pub IsQueryOver : Signature → Query → Type 0
IsQueryOver signature (Secret message phase) = IsTermOver signature (IsDeclaredFree signature) message
IsQueryOver signature (SecretNew point phase) = Unit {0}
IsQueryOver signature (Correspondence left alternatives) =
    IsEventOver signature (IsFreeOrVariable signature) left
    × AllByRecursion (AllByRecursion (IsEventOver signature (IsFreeOrVariable signature))) alternatives

-- each leaf of a term is bound where it stands, each symbol has its number of arguments, nothing is bound twice on a way, and
-- phases come in their order
pub record IsWellScoped (P : Protocol) : Type 0 where
  pub rules : AllByRecursion (λ d. AllByRecursion (IsRuleOver (signature_of P)) d.rules) P.destructors
  pub process : IsProcessBelow (signature_of P) [] 1 P.main
  pub phases : ArePhasesOrdered 0 P.main
  pub queries : AllByRecursion (IsQueryOver (signature_of P)) P.queries
