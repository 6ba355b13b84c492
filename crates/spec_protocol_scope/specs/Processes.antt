-- Processes: macros are expanded where they are used, and points and variables are numbered in pre-order, from 1.
use Rattle.std.specs.Prelude.{ℕ, ◌+◌, Bool, nat_le, ◌&&◌, if◌then◌else◌, List, [], ◌∷◌, ◌++◌, length, Option, Some, None, unwrap_or, Ok}
use Rattle.std.specs.Str.{bytes_eq}
use Rattle.spec_trees.specs.Tree.{Leaf}
use Rattle.spec_calculus.specs.Bounds.{most_points, most_points_above}
use Rattle.spec_calculus.specs.Syntax as calculus
use Rattle.spec_protocol_grammar.specs.Sketch.{ConditionSketch, always, such_that, ProcessSketch, Process, alone, beside, UnitSketch, Zero, Macro, Inner, Replicated, New, Output, Input, Happens, Let, If, Phase, Insert, Get, NextSketch, omitted, given}
use Rattle.spec_protocol_scope.specs.Answers.{Answer, Code, Unknown, Kind, TooMany, fault, ◌>>=◌}
use Rattle.spec_protocol_scope.specs.Names.{Scope, Meaning, MeansMacro, look, Bound}
use Rattle.spec_protocol_scope.specs.Names as names
use Rattle.spec_protocol_scope.specs.Terms.{InProcess, process_term, table_named, event, entry}
use Rattle.spec_protocol_scope.specs.Expressions.{expression}
use Rattle.spec_protocol_scope.specs.Patterns.{count, pattern, patterns}
use Rattle.spec_protocol_scope.specs.Phases.{later_phase}

-- the numbers that the next point and the next variable get
pub record Numbers : Type 0 where
  pub point : ℕ
  pub variable : ℕ

-- where a process stands
pub record Site : Type 0 where
  -- what is bound there, the innermost first
  pub bound : List Bound
  -- how many points stand above it
  pub above : ℕ
  -- the identifier of the outermost macro use that it comes from
  pub used : Option ℕ
  -- the phase in force there
  pub phase : ℕ

-- one point further down
abbrev pub below : Site → Site
below site = record { bound = site.bound; above = site.above + 1; used = site.used; phase = site.phase }

-- one point further down, in this phase
abbrev pub entering : ℕ → Site → Site
entering phase site = record { bound = site.bound; above = site.above + 1; used = site.used; phase = phase }

-- one point further down, where this is bound
abbrev pub binding_all : List Bound → Site → Site
binding_all bound site = record { bound = bound; above = site.above + 1; used = site.used; phase = site.phase }

-- one point further down, where these are bound besides
abbrev pub binding : List Bound → Site → Site
binding found site = binding_all (found ++ site.bound) site

-- in the body of the macro that this identifier uses
abbrev pub within_macro : ℕ → Site → Site
within_macro n site = record { bound = site.bound; above = site.above; used = Some (unwrap_or site.used n); phase = site.phase }

-- a process, with the numbers that come after it
abbrev pub Numbered : Type 0
Numbered = Answer (calculus.Process × Numbers)

-- what a macro stands for: a process at each place where it is used
abbrev pub Expansion : Type 0
Expansion = Site → Numbers → Numbered

-- what each word stands for as the use of a macro
abbrev pub Macros : Type 0
Macros = List ℕ → Option Expansion

abbrev pub no_macros : Macros
no_macros word = None

-- one more macro
abbrev pub with_macro : Macros → List ℕ → Expansion → Macros
with_macro macros name expansion word = if bytes_eq name word then Some expansion else macros word

-- why an identifier is not the use of a macro: it is declared as another kind, or as no macro yet
abbrev pub misuse : Option Meaning → Code
misuse None = Unknown
misuse (Some MeansMacro) = Unknown
misuse (Some meaning) = Kind

abbrev pub expansion_or : ℕ → Option Meaning → Option Expansion → Answer Expansion
expansion_or n meaning (Some expansion) = Ok expansion
expansion_or n meaning None = fault (misuse meaning) n

-- what the use of a macro stands for
abbrev pub used_macro : Scope → Macros → ℕ → Answer Expansion
used_macro s macros n = expansion_or n (look s n) (macros (s.text n))

-- the first token of a unit
abbrev pub first_of : UnitSketch → ℕ
first_of (Zero n) = n
first_of (Macro n) = n
first_of (Inner n p) = n
first_of (Replicated n u) = n
first_of (New n x k) = n
first_of (Output n c m k) = n
first_of (Input n c p k) = n
first_of (Happens n a k) = n
first_of (Let n p t u k) = n
first_of (If n t v u k) = n
first_of (Phase n x k) = n
first_of (Insert n a k) = n
first_of (Get n t ps c u k) = n

-- whether one more point may stand there: it is within the limits of points, and of points above it
abbrev pub is_room : Site → Numbers → Bool
is_room site now = nat_le now.point most_points && nat_le site.above most_points_above

-- the next point is met
abbrev pub counted : Numbers → Numbers
counted now = record { point = now.point + 1; variable = now.variable }

-- a point that begins with this token
abbrev pub reached : Site → Numbers → ℕ → Answer Numbers
reached site now n = if is_room site now then Ok (counted now) else fault TooMany (unwrap_or site.used n)

-- a point past the limits that begins with this unit, outside of macros: a faulty macro use there is the lesser fault
abbrev pub crowded : Scope → Macros → UnitSketch → Answer Numbers
crowded s macros (Macro n) = do
  expansion ← used_macro s macros n
  fault TooMany n
crowded s macros u = fault TooMany (first_of u)

abbrev pub crowded_in : Scope → Macros → Option ℕ → UnitSketch → Answer Numbers
crowded_in s macros (Some used) u = fault TooMany used
crowded_in s macros None u = crowded s macros u

-- the point of `unit | process`
abbrev pub both_reached : Scope → Macros → Site → Numbers → UnitSketch → Answer Numbers
both_reached s macros site now u = if is_room site now then Ok (counted now) else crowded_in s macros site.used u

-- a restriction's name, of the point that is next
abbrev pub made : ℕ → Numbers → Bound
made x now = record { token = x; name = calculus.Made now.point }

-- as many variables more
abbrev pub with_variables : List Bound → Numbers → Numbers
with_variables found now = record { point = now.point; variable = now.variable + length found }

-- what is asked of an entry besides its patterns, where these are bound
abbrev pub condition : Scope → List Bound → ConditionSketch → Answer calculus.Condition
condition s bound always = Ok None
condition s bound (such_that t v) = do
  left ← process_term s bound t
  right ← process_term s bound v
  Ok (Some (left, right))

abbrev mutual
  -- a unit, and what runs beside it
  pub process : Scope → Macros → Site → Numbers → ProcessSketch → Numbered
  process s macros site now (Process u alone) = unit s macros site now u
  process s macros site now (Process u (beside p)) = do
    next ← both_reached s macros site now u
    left ← unit s macros (below site) next u
    right ← process s macros (below site) left.1 p
    Ok (calculus.Parallel left.0 right.0, right.1)

  -- one unit
  pub unit : Scope → Macros → Site → Numbers → UnitSketch → Numbered
  unit s macros site now (Zero n) = do
    next ← reached site now n
    Ok (calculus.Nil, next)
  unit s macros site now (Macro n) = do
    expansion ← used_macro s macros n
    expansion (within_macro n site) now
  unit s macros site now (Inner n p) = process s macros site now p
  unit s macros site now (Replicated n u) = do
    next ← reached site now n
    copied ← unit s macros (below site) next u
    Ok (calculus.Replication copied.0, copied.1)
  unit s macros site now (New n x k) = do
    next ← reached site now n
    rest ← after s macros (binding (made x now ∷ []) site) next n k
    Ok (calculus.New (s.text x) rest.0, rest.1)
  unit s macros site now (Output n c m k) = do
    next ← reached site now n
    channel ← process_term s site.bound c
    message ← process_term s site.bound m
    rest ← after s macros (below site) next n k
    Ok (calculus.Output channel message rest.0, rest.1)
  unit s macros site now (Input n c p k) = do
    next ← reached site now n
    channel ← process_term s site.bound c
    received ← pattern s site.bound next.variable [] p
    rest ← after s macros (binding received.1 site) (with_variables received.1 next) n k
    Ok (calculus.Input channel received.0 rest.0, rest.1)
  unit s macros site now (Happens n a k) = do
    next ← reached site now n
    performed ← event s (InProcess site.bound) [] a
    rest ← after s macros (below site) next n k
    Ok (calculus.Event performed.0 rest.0, rest.1)
  unit s macros site now (Let n p t u k) = do
    next ← reached site now n
    matched ← pattern s site.bound next.variable [] p
    evaluated ← expression s site.bound t
    done ← unit s macros (binding matched.1 site) (with_variables matched.1 next) u
    otherwise ← after s macros (below site) done.1 n k
    Ok (calculus.Let matched.0 evaluated done.0 otherwise.0, otherwise.1)
  -- `if M = N` is `let =N = M in`
  unit s macros site now (If n t v u k) = do
    next ← reached site now n
    left ← process_term s site.bound t
    right ← process_term s site.bound v
    done ← unit s macros (below site) next u
    otherwise ← after s macros (below site) done.1 n k
    Ok (calculus.Let (Leaf (calculus.Equal right)) (Leaf left) done.0 otherwise.0, otherwise.1)
  unit s macros site now (Phase n x k) = do
    next ← reached site now n
    number ← later_phase s.text site.phase x
    rest ← after s macros (entering number site) next n k
    Ok (calculus.Phase number rest.0, rest.1)
  unit s macros site now (Insert n a k) = do
    next ← reached site now n
    written ← entry s site.bound a
    rest ← after s macros (below site) next n k
    Ok (calculus.Insert written.0 written.1 rest.0, rest.1)
  -- the terms of a row of patterns are read before it binds anything, those of the condition behind it
  unit s macros site now (Get n t ps c u k) = do
    next ← reached site now n
    table ← table_named t (count ps) (look s t)
    row ← patterns s site.bound next.variable [] ps
    asked ← condition s (row.1 ++ site.bound) c
    done ← unit s macros (binding row.1 site) (with_variables row.1 next) u
    otherwise ← after s macros (below site) done.1 n k
    Ok (calculus.Get table row.0 asked done.0 otherwise.0, otherwise.1)

  -- a continuation or else branch of the unit that begins with this token; where it is omitted, it is `0`
  pub after : Scope → Macros → Site → Numbers → ℕ → NextSketch → Numbered
  after s macros site now n omitted = do
    next ← reached site now n
    Ok (calculus.Nil, next)
  after s macros site now n (given u) = unit s macros site now u

-- a macro's body sees the macros that are declared before it, and the names that are bound where it is used
abbrev pub expand : Scope → Macros → names.Macro → Expansion
expand s macros m site now = process s macros site now m.body

-- what all these macros stand for, in order of declaration
abbrev pub macros_of : Scope → Macros → List names.Macro → Macros
macros_of s macros [] = macros
macros_of s macros (m ∷ ms) = macros_of s (with_macro macros (s.text m.name) (expand s macros m)) ms

-- the main process, which begins in phase 0
abbrev pub main_process : Scope → ProcessSketch → Answer calculus.Process
main_process s main = do
  read ← process s (macros_of s no_macros s.names.macros) (record { bound = []; above = 0; used = None; phase = 0 }) (record { point = 1; variable = 1 }) main
  Ok read.0
