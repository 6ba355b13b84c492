-- What is read has short tuples, and rules with few variables.
use Rattle.std.proofs.Common.{◌≡◌, ℕ, zero, suc, ◌+◌, ◌≤◌, Option, Some, None, List, [], ◌∷◌, ◌++◌, length, refl, sym, subst, arith}
use Rattle.std.specs.List.{AllByRecursion, slice_get}
use Rattle.std.specs.Option.{option_map_or}
use Rattle.spec_trees.specs.Tree.{Tree, Trees, Leaf, Node, none, more}
use Rattle.spec_trees.specs.Leaves.{leaves}
use Rattle.spec_calculus.specs.Syntax.{Name, Made, Constructor, Tuple, Process, Nil, Output, Input, Parallel, Replication, New, Let, Event, Phase, Insert, Get, Head, Builds, Calls, Expression, Rule, Destructor, Protocol}
use Rattle.spec_calculus.specs.Bounds.{most_choices}
use Rattle.spec_calculus.specs.Choices.{choice_count}
use Rattle.spec_calculus.specs.Matching.{rules_of}
use Rattle.spec_calculus.specs.Tables.{sides}
use Rattle.spec_calculus.specs.Points.{numbered, point_after}
use Rattle.spec_well_formed.specs.Signature.{Signature, signature_of}
use Rattle.spec_well_formed.specs.Terms.{row_length, EachSymbol, EachSymbolInRow, IsKnown, rule_count, TakesParts, IsExpressionBelow, bound_by, bound_by_row}
use Rattle.spec_well_formed.specs.Processes.{IsProcessBelow}
use Rattle.spec_well_formed.specs.Limits.{IsSmallRule, IsSmallDestructor, IsWithinLimits}
use Rattle.spec_well_formed.specs.Rules.{IsProperRule, HasProperRules}
use Rattle.spec_well_formed.specs.WellFormed.{IsRuleOver, IsWellScoped}
use Rattle.clause_terms.proofs.Laws.{short_term, short_terms, short_pattern, short_row, short_rule, rule_room}
use Rattle.unified_visits.specs.Room.{rule_base}
use Rattle.unified_visits.specs.Short.{IsFitHead, IsFitExpression, IsFitProcess, IsFitRule, HasFitRules}

-- what holds of each root follows from what else holds of it
mutual
  each_weaker : {L S : Type 0} (Q R : S → ℕ → Type 0) → ((f : S) (n : ℕ) → Q f n → R f n) → (t : Tree L S) → EachSymbol Q t → EachSymbol R t
  each_weaker Q R gives (Leaf x) h = tt
  each_weaker Q R gives (Node f ts) h = (gives f (row_length ts) h.0, row_weaker Q R gives ts h.1)

  row_weaker : {L S : Type 0} (Q R : S → ℕ → Type 0) → ((f : S) (n : ℕ) → Q f n → R f n) → (ts : Trees L S) → EachSymbolInRow Q ts → EachSymbolInRow R ts
  row_weaker Q R gives none h = tt
  row_weaker Q R gives (more t ts) h = (each_weaker Q R gives t h.0, row_weaker Q R gives ts h.1)

as_many_rules : (o : Option Destructor) → option_map_or (λ destructor. length destructor.rules) o 0 ≡ length (option_map_or (λ destructor. destructor.rules) o [])
as_many_rules None = refl
as_many_rules (Some destructor) = refl

module _ (P : Protocol) where
  fit_head : (head : Head ℕ) (count : ℕ) → TakesParts (signature_of P) head count → IsFitHead P head count
  fit_head (Builds (Constructor f)) count takes = tt
  fit_head (Builds Tuple) count takes = takes.1
  fit_head (Calls d) count takes = subst (λ o. AllByRecursion (λ (rule : Rule). length rule.left ≡ count) (option_map_or (λ destructor. destructor.rules) o [])) (sym takes.stands) takes.are

  fit_expression : (bound : List Name) (e : Expression) → IsExpressionBelow (signature_of P) bound e → IsFitExpression P e
  fit_expression bound e below =
      let counts : (d : ℕ) → rule_count (signature_of P) d ≡ length (rules_of P d) = λ d. as_many_rules (numbered P.destructors d) in
      record {
        terms = short_terms (signature_of P) (IsKnown (signature_of P) bound) (leaves e) below.terms;
        heads = each_weaker (TakesParts (signature_of P)) (IsFitHead P) fit_head e below.heads;
        few = below.few_applications;
        few_choices = subst (λ n. n ≤ most_choices) (λ i. choice_count (λ d. counts d i) e) below.few_choices;
      }

  fit_process : (bound : List Name) (point : ℕ) (p : Process) → IsProcessBelow (signature_of P) bound point p → IsFitProcess P p
  fit_process bound point Nil below = tt
  fit_process bound point (Output channel message next) below =
      (short_term (signature_of P) (IsKnown (signature_of P) bound) channel below.0, short_term (signature_of P) (IsKnown (signature_of P) bound) message below.1, fit_process bound (point + 1) next below.2)
  fit_process bound point (Input channel pattern next) below =
      (short_term (signature_of P) (IsKnown (signature_of P) bound) channel below.0, short_pattern (signature_of P) bound pattern below.1, fit_process (bound_by pattern ++ bound) (point + 1) next below.2)
  fit_process bound point (Parallel left right) below = (fit_process bound (point + 1) left below.0, fit_process bound (point_after (point + 1) left) right below.1)
  fit_process bound point (Replication copied) below = fit_process bound (point + 1) copied below
  fit_process bound point (New word next) below = fit_process (Made point ∷ bound) (point + 1) next below.1
  fit_process bound point (Let pattern expression next otherwise) below = (
    short_pattern (signature_of P) bound pattern below.0,
    fit_expression bound expression below.1,
    fit_process (bound_by pattern ++ bound) (point + 1) next below.2,
    fit_process bound (point_after (point + 1) next) otherwise below.3,
  )
  fit_process bound point (Event performed next) below = (short_terms (signature_of P) (IsKnown (signature_of P) bound) performed.arguments below.0.arguments, fit_process bound (point + 1) next below.1)
  fit_process bound point (Phase number next) below = fit_process bound (point + 1) next below
  fit_process bound point (Insert table arguments next) below = (short_terms (signature_of P) (IsKnown (signature_of P) bound) arguments below.1, fit_process bound (point + 1) next below.2)
  fit_process bound point (Get table patterns condition next otherwise) below = (
    short_row (signature_of P) bound patterns below.1.holes below.1.arities,
    short_terms (signature_of P) (IsKnown (signature_of P) (bound_by_row patterns ++ bound)) (sides condition) below.2,
    fit_process (bound_by_row patterns ++ bound) (point + 1) next below.3,
    fit_process bound (point_after (point + 1) next) otherwise below.4,
  )

pub main_fit : (P : Protocol) → IsWellScoped P → IsFitProcess P P.main
main_fit P scoped = fit_process P [] 1 P.main scoped.process

rules_fit : (signature : Signature) (rules : List Rule) → AllByRecursion IsProperRule rules → AllByRecursion IsSmallRule rules → AllByRecursion (IsRuleOver signature) rules → AllByRecursion IsFitRule rules
rules_fit signature [] proper small over = tt
rules_fit signature (rule ∷ rules) proper small over = (
  record { short = short_rule signature rule over.0; few = rule_room rule_base rule proper.0 small.0 (omega arith) },
  rules_fit signature rules proper.1 small.1 over.1,
)

fit_at : (signature : Signature) (ds : List Destructor) (index : ℕ) → AllByRecursion IsProperRule (option_map_or (λ destructor. destructor.rules) (slice_get ds index) []) → AllByRecursion IsSmallDestructor ds
    → AllByRecursion (λ d. AllByRecursion (IsRuleOver signature) d.rules) ds → AllByRecursion IsFitRule (option_map_or (λ destructor. destructor.rules) (slice_get ds index) [])
fit_at signature [] index proper small over = tt
fit_at signature (d ∷ ds) zero proper small over = rules_fit signature d.rules proper small.0.rules over.0
fit_at signature (d ∷ ds) (suc index) proper small over = fit_at signature ds index proper small.1 over.1

pub has_fit_rules : (P : Protocol) → HasProperRules P → IsWithinLimits P → IsWellScoped P → HasFitRules P
has_fit_rules P proper limits scoped zero = tt
has_fit_rules P proper limits scoped (suc index) = fit_at (signature_of P) P.destructors index (proper.proper (suc index)) limits.destructors scoped.rules
