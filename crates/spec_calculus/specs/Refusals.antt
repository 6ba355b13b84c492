-- Why a step is not possible: of the causes that apply, the first in the order that is listed here.
use Rattle.std.specs.Prelude.{◌≡◌, ℕ, zero, suc, Bool, true, false, not, ◌&&◌, ◌||◌, nat_le, nat_lt, nat_eq, List, [], ◌∷◌, length, cond, Option, None, Some, option_and_then, is_some, is_none}
use Rattle.std.specs.List.{AllByRecursion, list_any}
use Rattle.std.specs.Option.{option_map_or}
use Rattle.spec_calculus.specs.Syntax.{Process, Output, Input, Parallel, Replication, New, Let, Event, Insert, Get, Rule, Protocol}
use Rattle.spec_calculus.specs.Bounds.{most_arguments}
use Rattle.spec_calculus.specs.Points.{numbered, greatest_phase}
use Rattle.spec_calculus.specs.Values.{Value, Environment, same_value, value_of}
use Rattle.spec_calculus.specs.Matching.{matched, rule_value, rules_of}
use Rattle.spec_calculus.specs.Tables.{matched_entry}
use Rattle.spec_calculus.specs.Choices.{value_at, values_at}
use Rattle.spec_calculus.specs.Runs.{Configuration, Step, Build, Reduce, Part, Fresh, Split, Copy, Make, Pass, Hear, Say, Take, Fail, Mark, Next, Put, Fetch, Miss, acting, knows, known_values, part_of}

pub data Refusal : Type 0 where
  -- no such thread
  NoThread : Refusal
  -- the thread stands at another form or has ended; no such constructor, destructor or part; another number of arguments; no later
  -- phase
  WrongForm : Refusal
  -- the channel is not known
  UnknownChannel : Refusal
  -- the channels differ
  ChannelsDiffer : Refusal
  -- no known value of that number
  NoKnowledge : Refusal
  -- no such rule, or no such choice of rules, or they do not all apply, or the value does not match
  NoRule : Refusal
  -- a value matches, or an entry may be taken
  NotFailing : Refusal
  -- the constructor is private
  NotPublic : Refusal
  -- no such entry, or it is of another table, or its values do not match or do not meet the condition
  NoEntry : Refusal
  -- the step is possible, and a value that it evaluates or makes is over the limit of size
  Large : Refusal

-- a cause, where it applies
pub record Cause : Type 0 where
  pub applies : Bool
  pub refusal : Refusal

abbrev pub first_cause : List Cause → Option Refusal
first_cause [] = None
first_cause (cause ∷ causes) = cond cause.applies (Some cause.refusal) (first_cause causes)

abbrev pub where_true : Refusal → Bool → Cause
where_true refusal applies = record { applies = applies; refusal = refusal }

-- whether the constructor, or for 0 the tuple, takes that many arguments
abbrev pub takes : Protocol → ℕ → ℕ → Bool
takes P zero count = nat_le 2 count && nat_le count most_arguments
takes P (suc f) count = option_map_or (λ declared. nat_eq declared.arity count) (numbered P.constructors (suc f)) false

abbrev pub is_public_constructor : Protocol → ℕ → Bool
is_public_constructor P zero = true
is_public_constructor P (suc f) = option_map_or (λ declared. declared.public) (numbered P.constructors (suc f)) false

-- whether the destructor takes that many arguments: as many as its first rule, since all have as many
abbrev pub first_arity : List Rule → ℕ → Bool
first_arity [] count = false
first_arity (rule ∷ rules) count = nat_eq (length rule.left) count

-- whether the value that the rule of that number gives of known values is there
abbrev pub reduces : Protocol → Configuration → ℕ → ℕ → List ℕ → Bool
reduces P c d r ks = option_map_or (λ rule. is_some (option_and_then (rule_value rule) (known_values c ks))) (numbered (rules_of P d) r) false

-- what a form shows of a thread that stands at it: an output its channel and message, an input its channel
abbrev pub at_split : ℕ → Environment → Process → Option Process
at_split point environment (Parallel left right) = Some left
at_split point environment other = None

abbrev pub at_copy : ℕ → Environment → Process → Option Process
at_copy point environment (Replication copied) = Some copied
at_copy point environment other = None

abbrev pub at_make : ℕ → Environment → Process → Option Process
at_make point environment (New word next) = Some next
at_make point environment other = None

abbrev pub at_output : ℕ → Environment → Process → Option Value
at_output point environment (Output channel message next) = Some (value_of environment channel)
at_output point environment other = None

abbrev pub at_input : ℕ → Environment → Process → Option Value
at_input point environment (Input channel pattern next) = Some (value_of environment channel)
at_input point environment other = None

-- whether the value of that label of the `let` matches its pattern
abbrev pub at_take : Protocol → List ℕ → ℕ → Environment → Process → Option Bool
at_take P label point environment (Let pattern expression next otherwise) =
    Some (is_some (option_and_then (matched environment pattern) (value_at P environment expression label)))
at_take P label point environment other = None

-- whether some value of the `let` matches
abbrev pub at_fail : Protocol → ℕ → Environment → Process → Option Bool
at_fail P point environment (Let pattern expression next otherwise) =
    Some (list_any (λ v. is_some (matched environment pattern v)) (values_at P environment expression))
at_fail P point environment other = None

abbrev pub at_mark : ℕ → Environment → Process → Option Process
at_mark point environment (Event performed next) = Some next
at_mark point environment other = None

abbrev pub at_put : ℕ → Environment → Process → Option Process
at_put point environment (Insert table arguments next) = Some next
at_put point environment other = None

-- whether the `get` may take the entry of that number
abbrev pub at_fetch : Configuration → ℕ → ℕ → Environment → Process → Option Bool
at_fetch c e point environment (Get table patterns condition next otherwise) =
    Some (is_some (option_and_then (matched_entry environment table patterns condition) (numbered c.entries e)))
at_fetch c e point environment other = None

-- whether it may take some entry
abbrev pub at_miss : Configuration → ℕ → Environment → Process → Option Bool
at_miss c point environment (Get table patterns condition next otherwise) =
    Some (list_any (λ held. is_some (matched_entry environment table patterns condition held)) c.entries)
at_miss c point environment other = None

abbrev pub no_thread : Configuration → ℕ → Bool
no_thread c i = is_none (numbered c.threads i)

-- why the step is not possible, or nothing where it is
abbrev pub refusal : Protocol → Configuration → Step → Option Refusal
refusal P c (Build f ks) = first_cause (
    where_true WrongForm (not (takes P f (length ks))) ∷ where_true NoKnowledge (is_none (known_values c ks)) ∷ where_true NotPublic (not (is_public_constructor P f)) ∷ [])
refusal P c (Reduce d r ks) = first_cause (
    where_true WrongForm (not (first_arity (rules_of P d) (length ks))) ∷ where_true NoKnowledge (is_none (known_values c ks)) ∷ where_true NoRule (not (reduces P c d r ks)) ∷ [])
refusal P c (Part k i) = first_cause (
    where_true NoKnowledge (is_none (numbered c.known k)) ∷ where_true WrongForm (is_none (option_and_then (part_of P i) (numbered c.known k))) ∷ [])
refusal P c Fresh = None
refusal P c (Split i) = first_cause (where_true NoThread (no_thread c i) ∷ where_true WrongForm (is_none (acting P c i at_split)) ∷ [])
refusal P c (Copy i) = first_cause (where_true NoThread (no_thread c i) ∷ where_true WrongForm (is_none (acting P c i at_copy)) ∷ [])
refusal P c (Make i) = first_cause (where_true NoThread (no_thread c i) ∷ where_true WrongForm (is_none (acting P c i at_make)) ∷ [])
refusal P c (Pass i j) = first_cause (
    where_true NoThread (no_thread c i || no_thread c j)
    ∷ where_true WrongForm (is_none (acting P c i at_output) || is_none (acting P c j at_input))
    ∷ where_true ChannelsDiffer (not (option_map_or (λ channel. option_map_or (same_value channel) (acting P c j at_input) false) (acting P c i at_output) false)) ∷ [])
refusal P c (Hear i) = first_cause (
    where_true NoThread (no_thread c i) ∷ where_true WrongForm (is_none (acting P c i at_output))
    ∷ where_true UnknownChannel (not (option_map_or (knows c) (acting P c i at_output) false)) ∷ [])
refusal P c (Say j k) = first_cause (
    where_true NoThread (no_thread c j) ∷ where_true WrongForm (is_none (acting P c j at_input))
    ∷ where_true UnknownChannel (not (option_map_or (knows c) (acting P c j at_input) false)) ∷ where_true NoKnowledge (is_none (numbered c.known k)) ∷ [])
refusal P c (Take i label) = first_cause (
    where_true NoThread (no_thread c i) ∷ where_true WrongForm (is_none (acting P c i (at_take P label)))
    ∷ where_true NoRule (not (option_map_or (λ matches. matches) (acting P c i (at_take P label)) false)) ∷ [])
refusal P c (Fail i) = first_cause (
    where_true NoThread (no_thread c i) ∷ where_true WrongForm (is_none (acting P c i (at_fail P)))
    ∷ where_true NotFailing (option_map_or (λ matches. matches) (acting P c i (at_fail P)) false) ∷ [])
refusal P c (Mark i) = first_cause (where_true NoThread (no_thread c i) ∷ where_true WrongForm (is_none (acting P c i at_mark)) ∷ [])
refusal P c Next = first_cause (where_true WrongForm (not (nat_lt c.phase (greatest_phase P.main))) ∷ [])
refusal P c (Put i) = first_cause (where_true NoThread (no_thread c i) ∷ where_true WrongForm (is_none (acting P c i at_put)) ∷ [])
refusal P c (Fetch i e) = first_cause (
    where_true NoThread (no_thread c i) ∷ where_true WrongForm (is_none (acting P c i (at_fetch c e)))
    ∷ where_true NoEntry (not (option_map_or (λ matches. matches) (acting P c i (at_fetch c e)) false)) ∷ [])
refusal P c (Miss i) = first_cause (
    where_true NoThread (no_thread c i) ∷ where_true WrongForm (is_none (acting P c i (at_miss c)))
    ∷ where_true NotFailing (option_map_or (λ matches. matches) (acting P c i (at_miss c)) false) ∷ [])

-- all rules of a destructor take as many arguments as its first
abbrev pub AreUniform : List Rule → Type 0
AreUniform [] = Unit {0}
AreUniform (rule ∷ rules) = AllByRecursion (λ other. length other.left ≡ length rule.left) rules

abbrev pub IsUniform : Protocol → Type 0
IsUniform P = (d : ℕ) → AreUniform (rules_of P d)
