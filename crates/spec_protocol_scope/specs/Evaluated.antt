-- The expressions that a process evaluates, each where it stands.
use Rattle.std.specs.Prelude.{◌≡◌, ℕ, ◌≤◌, List, length}
use Rattle.std.specs.List.{AllByRecursion}
use Rattle.spec_calculus.specs.Bounds.{most_applications, most_choices}
use Rattle.spec_calculus.specs.Syntax.{Head, Builds, Calls, Expression, Rule, Process, Nil, Output, Input, Parallel, Replication, New, Let, Event, Phase, Insert, Get, Protocol}
use Rattle.spec_calculus.specs.Choices.{choices, applications}
use Rattle.spec_well_formed.specs.Terms.{EachSymbol}

-- this holds of the expression of each `let`
abbrev pub EachExpression : (Expression → Type 0) → Process → Type 0
EachExpression Q Nil = Unit {0}
EachExpression Q (Output channel message next) = EachExpression Q next
EachExpression Q (Input channel pattern next) = EachExpression Q next
EachExpression Q (Parallel left right) = EachExpression Q left × EachExpression Q right
EachExpression Q (Replication copied) = EachExpression Q copied
EachExpression Q (New word next) = EachExpression Q next
EachExpression Q (Let pattern expression next otherwise) = Q expression × EachExpression Q next × EachExpression Q otherwise
EachExpression Q (Event performed next) = EachExpression Q next
EachExpression Q (Phase number next) = EachExpression Q next
EachExpression Q (Insert table arguments next) = EachExpression Q next
EachExpression Q (Get table patterns condition next otherwise) = EachExpression Q next × EachExpression Q otherwise

-- each destructor of the expression has as many arguments as each of its rules has left sides
abbrev pub IsFullCall : (ℕ → List Rule) → Head ℕ → ℕ → Type 0
IsFullCall rules (Builds f) count = Unit {0}
IsFullCall rules (Calls d) count = AllByRecursion (λ r. length r.left ≡ count) (rules d)

abbrev pub HasFullCalls : (ℕ → List Rule) → Expression → Type 0
HasFullCalls rules e = EachSymbol (IsFullCall rules) e

-- the choices of the expression are no more than the limit, and each is of no more rules than the limit of applications
pub record HasFewChoices (P : Protocol) (e : Expression) : Type 0 where
  pub few_rules : applications e ≤ most_applications
  pub few : length (choices P e) ≤ most_choices
