-- The rules of a protocol that is read can be made terms of clauses, with variables from 5.
use Rattle.std.proofs.Common.{ℕ, zero, suc, List, [], ◌∷◌, arith}
use Rattle.std.specs.List.{AllByRecursion}
use Rattle.std.specs.Option.{option_map_or}
use Rattle.spec_calculus.specs.Syntax.{Rule, Destructor, Protocol}
use Rattle.spec_calculus.specs.Points.{numbered}
use Rattle.spec_well_formed.specs.Signature.{Signature, signature_of}
use Rattle.spec_well_formed.specs.Limits.{IsSmallRule, IsSmallDestructor}
use Rattle.spec_well_formed.specs.Rules.{IsProperRule}
use Rattle.spec_well_formed.specs.WellFormed.{IsRuleOver}
use Rattle.clause_terms.proofs.Laws.{short_rule, rule_room}
use Rattle.table_calls.specs.Declaring.{IsDeclared, CanBeShown, CanAllBeShown}

rules_shown : (signature : Signature) (rules : List Rule) → AllByRecursion IsProperRule rules → AllByRecursion IsSmallRule rules → AllByRecursion (IsRuleOver signature) rules → AllByRecursion CanBeShown rules
rules_shown signature [] proper small over = tt
rules_shown signature (rule ∷ rules) proper small over = (
  record { short = short_rule signature rule over.0; room = rule_room 5 rule proper.0 small.0 (omega arith) },
  rules_shown signature rules proper.1 small.1 over.1,
)

destructors_shown : (signature : Signature) (ds : List Destructor) → ((d : ℕ) → AllByRecursion IsProperRule (option_map_or (λ destructor. destructor.rules) (numbered ds d) [])) → AllByRecursion IsSmallDestructor ds
    → AllByRecursion (λ d. AllByRecursion (IsRuleOver signature) d.rules) ds → AllByRecursion CanAllBeShown ds
destructors_shown signature [] proper small over = tt
destructors_shown signature (d ∷ ds) proper small over = (rules_shown signature d.rules (proper 1) small.0.rules over.0, destructors_shown signature ds (λ k. later k) small.1 over.1) where
  later : (k : ℕ) → AllByRecursion IsProperRule (option_map_or (λ destructor. destructor.rules) (numbered ds k) [])
  later zero = tt
  later (suc k) = proper (suc (suc k))

pub all_shown : (P : Protocol) → IsDeclared P → AllByRecursion CanAllBeShown P.destructors
all_shown P declared = destructors_shown (signature_of P) P.destructors declared.rules.proper declared.limits.destructors declared.scoped.rules
