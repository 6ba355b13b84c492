-- What holds of each expression of a process that is well scoped.
use Rattle.std.proofs.Common.{◌≡◌, ℕ, ◌+◌, ◌*◌, ◌<◌, ◌≤◌, List, [], length, Option, None, Some, refl, subst, ◌∙◌, sym}
use Rattle.std.specs.Option.{option_map_or}
use Rattle.std.specs.List.{AllByRecursion}
use Rattle.spec_trees.specs.Tree.{Tree, Trees, Leaf, Node, none, more}
use Rattle.spec_calculus.specs.Bounds.{most_choices}
use Rattle.spec_calculus.specs.Syntax.{Name, Term, Head, Builds, Calls, Expression, Process, Nil, Output, Input, Parallel, Replication, New, Let, Event, Phase, Insert, Get, Destructor, Protocol}
use Rattle.spec_calculus.specs.Points.{numbered, point_after}
use Rattle.spec_calculus.specs.Matching.{rules_of}
use Rattle.spec_calculus.specs.Choices.{choice_count, row_choice_count, HasRules, HasRowRules}
use Rattle.spec_calculus.proofs.Choices.{choices_counted}
use Rattle.spec_calculus.proofs.Items.{each-numbered, if_some-is}
use Rattle.spec_well_formed.specs.Signature.{Signature, signature_of}
use Rattle.spec_well_formed.specs.Terms.{EachSymbol, EachSymbolInRow, TakesParts, HasRulesFor, rule_count, IsMerged, IsExpressionBelow}
use Rattle.spec_well_formed.specs.Processes.{IsProcessBelow}
use Rattle.spec_well_formed.specs.Limits.{IsSmallDestructor}
use Rattle.spec_well_formed.specs.WellFormed.{IsWellScoped}
use Rattle.spec_protocol_scope.specs.Evaluated.{EachExpression, IsFullCall, HasFullCalls, HasFewChoices}

module _ (signature : Signature) (Q : Expression → Type 0) (holds : (bound : List Name) (e : Expression) → IsExpressionBelow signature bound e → Q e) where
  each_expression : (p : Process) (bound : List Name) (point : ℕ) → IsProcessBelow signature bound point p → EachExpression Q p
  each_expression Nil bound point h = tt
  each_expression (Output channel message next) bound point h = each_expression next bound (point + 1) h.2
  each_expression (Input channel pattern next) bound point h = each_expression next _ (point + 1) h.2
  each_expression (Parallel left right) bound point h = (each_expression left bound (point + 1) h.0, each_expression right bound (point_after (point + 1) left) h.1)
  each_expression (Replication copied) bound point h = each_expression copied bound (point + 1) h
  each_expression (New word next) bound point h = each_expression next _ (point + 1) h.1
  each_expression (Let pattern expression next otherwise) bound point h =
      (holds bound expression h.1, each_expression next _ (point + 1) h.2, each_expression otherwise bound (point_after (point + 1) next) h.3)
  each_expression (Event performed next) bound point h = each_expression next bound (point + 1) h.1
  each_expression (Phase number next) bound point h = each_expression next bound (point + 1) h
  each_expression (Insert table arguments next) bound point h = each_expression next bound (point + 1) h.2
  each_expression (Get table patterns condition next otherwise) bound point h =
      (each_expression next _ (point + 1) h.3, each_expression otherwise bound (point_after (point + 1) next) h.4)

-- what holds of each symbol implies another
module _ {L S : Type 0} (Q R : S → ℕ → Type 0) (weaker : (f : S) (n : ℕ) → Q f n → R f n) where
  mutual
    each_symbol-weaker : (t : Tree L S) → EachSymbol Q t → EachSymbol R t
    each_symbol-weaker (Leaf x) h = tt
    each_symbol-weaker (Node f ts) h = (weaker f _ h.0, row-weaker ts h.1)

    row-weaker : (ts : Trees L S) → EachSymbolInRow Q ts → EachSymbolInRow R ts
    row-weaker none h = tt
    row-weaker (more t ts) h = (each_symbol-weaker t h.0, row-weaker ts h.1)

-- the choices are counted alike by two counts of rules that are the same
module _ (f g : ℕ → ℕ) (same : (d : ℕ) → f d ≡ g d) where
  mutual
    count-same : (e : Expression) → choice_count f e ≡ choice_count g e
    count-same (Leaf t) = refl
    count-same (Node (Builds symbol) parts) = row_count-same parts
    count-same (Node (Calls d) parts) = let row = row_count-same parts in let rules = same d in λ i. row i * rules i

    row_count-same : (parts : Trees Term (Head ℕ)) → row_choice_count f parts ≡ row_choice_count g parts
    row_count-same none = refl
    row_count-same (more part parts) = let first = count-same part in let others = row_count-same parts in λ i. first i * others i

module _ (P : Protocol) where
  counted : (d : ℕ) → rule_count (signature_of P) d ≡ length (rules_of P d)
  counted d = by (numbered P.destructors d)
    where
      by : (o : Option Destructor) → option_map_or (λ destructor. length destructor.rules) o 0 ≡ length (option_map_or (λ destructor. destructor.rules) o [])
      by None = refl
      by (Some destructor) = refl

  full_call : (root : Head ℕ) (n : ℕ) → TakesParts (signature_of P) root n → IsFullCall (rules_of P) root n
  full_call (Builds f) n h = tt
  full_call (Calls d) n h =
      subst (λ (o : Option Destructor). AllByRecursion (λ r. length r.left ≡ n) (option_map_or (λ destructor. destructor.rules) o [])) (sym h.stands) h.are

  pub each_merged : IsWellScoped P → EachExpression IsMerged P.main
  each_merged h = each_expression (signature_of P) IsMerged (λ bound e below. below.merged) P.main [] 1 h.process

  pub each_full : IsWellScoped P → EachExpression (HasFullCalls (rules_of P)) P.main
  each_full h = each_expression (signature_of P) (HasFullCalls (rules_of P))
      (λ bound e below. each_symbol-weaker (TakesParts (signature_of P)) (IsFullCall (rules_of P)) full_call e below.heads) P.main [] 1 h.process

  pub each_few : IsWellScoped P → EachExpression (HasFewChoices P) P.main
  each_few h = each_expression (signature_of P) (HasFewChoices P)
      (λ bound e below. record {
        few_rules = below.few_applications;
        few = subst (λ (n : ℕ). n ≤ most_choices) (count-same (rule_count (signature_of P)) (λ d. length (rules_of P d)) counted e ∙ sym (choices_counted P e)) below.few_choices;
      }) P.main [] 1 h.process

-- each destructor has a rule
module _ (P : Protocol) (rules : AllByRecursion IsSmallDestructor P.destructors) where
  has_rule : (d n : ℕ) → HasRulesFor (signature_of P) d n → 0 < length (rules_of P d)
  has_rule d n h =
      let small = if_some-is IsSmallDestructor (numbered P.destructors d) h.destructor (each-numbered IsSmallDestructor P.destructors d rules) h.stands in
      subst (λ (o : Option Destructor). 0 < length (option_map_or (λ destructor. destructor.rules) o [])) (sym h.stands) small.some

  mutual
    has_rules : (e : Expression) → EachSymbol (TakesParts (signature_of P)) e → HasRules P e
    has_rules (Leaf t) h = tt
    has_rules (Node (Builds f) parts) h = has_row_rules parts h.1
    has_rules (Node (Calls d) parts) h = (has_rule d _ h.0, has_row_rules parts h.1)

    has_row_rules : (parts : Trees Term (Head ℕ)) → EachSymbolInRow (TakesParts (signature_of P)) parts → HasRowRules P parts
    has_row_rules none h = tt
    has_row_rules (more part parts) h = (has_rules part h.0, has_row_rules parts h.1)

  pub each_ruled : IsWellScoped P → EachExpression (HasRules P) P.main
  each_ruled h = each_expression (signature_of P) (HasRules P) (λ bound e below. has_rules e below.heads) P.main [] 1 h.process
