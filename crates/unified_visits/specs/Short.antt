-- Processes and rules whose tuples have no more parts than the limit, expressions that are evaluated by few rules, and rules with few variables.
use Rattle.std.specs.Prelude.{ℕ, ◌+◌, ◌*◌, ◌≤◌, List, length}
use Rattle.std.specs.List.{AllByRecursion}
use Rattle.spec_trees.specs.Leaves.{leaves}
use Rattle.spec_calculus.specs.Syntax.{Process, Nil, Output, Input, Parallel, Replication, New, Let, Event, Phase, Insert, Get, Head, Builds, Calls, Expression, Rule, Protocol}
use Rattle.spec_calculus.specs.Bounds.{most_written_symbols, most_applications, most_choices}
use Rattle.spec_calculus.specs.Choices.{applications, choice_count}
use Rattle.spec_calculus.specs.Tables.{sides}
use Rattle.spec_calculus.specs.Matching.{rules_of}
use Rattle.spec_well_formed.specs.Terms.{EachSymbol}
use Rattle.spec_choice_walks.specs.Instructions.{Instruction, Push, Apply, BecomesOne, applied_by}
use Rattle.spec_choice_walks.specs.Stage.{IsFull}
use Rattle.clause_terms.specs.Conditions.{IsShort, HasShortTuples, IsShortPattern, IsShortRule, HasRoomForRule}
use Rattle.unified_visits.specs.Room.{rule_base}

-- a tuple is short, and a destructor has as many parts as each of its rules has on its left side
abbrev pub IsFitHead : Protocol → Head ℕ → ℕ → Type 0
IsFitHead P (Builds f) count = IsShort f count
IsFitHead P (Calls d) count = IsFull P (Calls d) count

-- an expression has short tuples, and few destructors and choices of rules for them
pub record IsFitExpression (P : Protocol) (e : Expression) : Type 0 where
  pub terms : AllByRecursion HasShortTuples (leaves e)
  pub heads : EachSymbol (IsFitHead P) e
  pub few : applications e ≤ most_applications
  pub few_choices : choice_count (λ d. length (rules_of P d)) e ≤ most_choices

-- the same of the instructions that are left, for a row of that length, where the next new variable has that number
abbrev pub IsFitInstruction : Protocol → Instruction → Type 0
IsFitInstruction P (Push term) = HasShortTuples term
IsFitInstruction P (Apply head count) = IsFitHead P head count

pub record AreFitInstructions (P : Protocol) (next height : ℕ) (instructions : List Instruction) : Type 0 where
  pub each : AllByRecursion (IsFitInstruction P) instructions
  pub one : BecomesOne height instructions
  pub room : next + applied_by instructions * most_written_symbols ≤ rule_base

-- each term, pattern and expression of the process has
abbrev pub IsFitProcess : Protocol → Process → Type 0
IsFitProcess P Nil = Unit {0}
IsFitProcess P (Output channel message next) = HasShortTuples channel × HasShortTuples message × IsFitProcess P next
IsFitProcess P (Input channel pattern next) = HasShortTuples channel × IsShortPattern pattern × IsFitProcess P next
IsFitProcess P (Parallel left right) = IsFitProcess P left × IsFitProcess P right
IsFitProcess P (Replication copied) = IsFitProcess P copied
IsFitProcess P (New word next) = IsFitProcess P next
IsFitProcess P (Let pattern expression next otherwise) =
    IsShortPattern pattern × IsFitExpression P expression × IsFitProcess P next × IsFitProcess P otherwise
IsFitProcess P (Event performed next) = AllByRecursion HasShortTuples performed.arguments × IsFitProcess P next
IsFitProcess P (Phase number next) = IsFitProcess P next
IsFitProcess P (Insert table arguments next) = AllByRecursion HasShortTuples arguments × IsFitProcess P next
IsFitProcess P (Get table patterns condition next otherwise) =
    AllByRecursion IsShortPattern patterns × AllByRecursion HasShortTuples (sides condition) × IsFitProcess P next × IsFitProcess P otherwise

-- a rule has short tuples, and no more variables than a rule may have symbols
pub record IsFitRule (rule : Rule) : Type 0 where
  pub short : IsShortRule rule
  pub few : HasRoomForRule rule_base rule

-- so has each rule of the protocol
abbrev pub HasFitRules : Protocol → Type 0
HasFitRules P = (d : ℕ) → AllByRecursion IsFitRule (rules_of P d)
