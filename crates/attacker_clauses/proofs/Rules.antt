-- The rules of a protocol that is read can be made terms of clauses.
use Rattle.std.proofs.Common.{ℕ, zero, suc, List, [], ◌∷◌, arith}
use Rattle.std.specs.List.{AllByRecursion}
use Rattle.std.specs.Option.{option_map_or}
use Rattle.spec_calculus.specs.Syntax.{Rule, Destructor, Protocol}
use Rattle.spec_calculus.specs.Points.{numbered}
use Rattle.spec_well_formed.specs.Signature.{Signature, signature_of}
use Rattle.spec_well_formed.specs.Limits.{IsSmallRule, IsSmallDestructor, IsWithinLimits}
use Rattle.spec_well_formed.specs.Rules.{IsProperRule, HasProperRules}
use Rattle.spec_well_formed.specs.WellFormed.{IsRuleOver, IsWellScoped}
use Rattle.clause_terms.proofs.Laws.{short_rule, rule_room}
use Rattle.attacker_clauses.specs.Conditions.{CanBeRenamed, CanAllBeRenamed}

rules_renamed : (signature : Signature) (rules : List Rule) → AllByRecursion IsProperRule rules → AllByRecursion IsSmallRule rules → AllByRecursion (IsRuleOver signature) rules → AllByRecursion CanBeRenamed rules
rules_renamed signature [] proper small over = tt
rules_renamed signature (rule ∷ rules) proper small over = (
  record { short = short_rule signature rule over.0; room = rule_room 0 rule proper.0 small.0 (omega arith) },
  rules_renamed signature rules proper.1 small.1 over.1,
)

destructors_renamed : (signature : Signature) (ds : List Destructor) → ((d : ℕ) → AllByRecursion IsProperRule (option_map_or (λ destructor. destructor.rules) (numbered ds d) [])) → AllByRecursion IsSmallDestructor ds
    → AllByRecursion (λ d. AllByRecursion (IsRuleOver signature) d.rules) ds → AllByRecursion CanAllBeRenamed ds
destructors_renamed signature [] proper small over = tt
destructors_renamed signature (d ∷ ds) proper small over = (rules_renamed signature d.rules (proper 1) small.0.rules over.0, destructors_renamed signature ds (λ k. later k) small.1 over.1) where
  later : (k : ℕ) → AllByRecursion IsProperRule (option_map_or (λ destructor. destructor.rules) (numbered ds k) [])
  later zero = tt
  later (suc k) = proper (suc (suc k))

pub all_renamed : (P : Protocol) → HasProperRules P → IsWithinLimits P → IsWellScoped P → AllByRecursion CanAllBeRenamed P.destructors
all_renamed P proper limits scoped = destructors_renamed (signature_of P) P.destructors proper.proper limits.destructors scoped.rules
