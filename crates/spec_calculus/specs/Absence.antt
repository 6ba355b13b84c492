-- Absence: a private free name that no term of the process holds.
use Rattle.std.specs.Prelude.{ℕ, List, Bool, false, not, ◌&&◌, ◌||◌, nat_eq, IsTrue}
use Rattle.std.specs.Option.{option_map_or}
use Rattle.spec_trees.specs.Tree.{trees, some_leaf, some_leaves}
use Rattle.spec_calculus.specs.Syntax.{Name, Free, Term, Hole, Bind, Equal, Pattern, Condition, Expression, Process, Nil, Output, Input, Parallel, Replication, New, Let, Event, Phase, Insert, Get, Declared, Protocol, Query, Secret}
use Rattle.spec_calculus.specs.Points.{numbered}
use Rattle.spec_calculus.specs.Tables.{row_pattern, sides}

-- whether the leaf is the free name of that number
abbrev pub is_free : ℕ → Name → Bool
is_free i (Free n) = nat_eq n i
is_free i x = false

-- whether a leaf that passes the test stands in one of the terms
abbrev pub some_term : (Name → Bool) → List Term → Bool
some_term test terms = some_leaves test (trees terms)

-- whether one stands in a term of the pattern
abbrev pub some_hole : (Name → Bool) → Hole → Bool
some_hole test (Bind i) = false
some_hole test (Equal term) = some_leaf test term

abbrev pub some_pattern : (Name → Bool) → Pattern → Bool
some_pattern test pattern = some_leaf (some_hole test) pattern

abbrev pub some_expression : (Name → Bool) → Expression → Bool
some_expression test e = some_leaf (some_leaf test) e

abbrev pub some_side : (Name → Bool) → Condition → Bool
some_side test condition = some_term test (sides condition)

-- whether one stands in a term or pattern of the process
abbrev pub some_name : (Name → Bool) → Process → Bool
some_name test Nil = false
some_name test (Output channel message next) = some_leaf test channel || some_leaf test message || some_name test next
some_name test (Input channel pattern next) = some_leaf test channel || some_pattern test pattern || some_name test next
some_name test (Parallel left right) = some_name test left || some_name test right
some_name test (Replication copied) = some_name test copied
some_name test (New word next) = some_name test next
some_name test (Let pattern expression next otherwise) =
    some_pattern test pattern || some_expression test expression || some_name test next || some_name test otherwise
some_name test (Event performed next) = some_term test performed.arguments || some_name test next
some_name test (Phase number next) = some_name test next
some_name test (Insert table arguments next) = some_term test arguments || some_name test next
some_name test (Get table patterns condition next otherwise) =
    some_pattern test (row_pattern patterns) || some_side test condition || some_name test next || some_name test otherwise

-- whether the term holds the free name of that number
abbrev pub term_holds : ℕ → Term → Bool
term_holds i term = some_leaf (is_free i) term

-- whether a term of the process holds it
abbrev pub process_holds : ℕ → Process → Bool
process_holds i process = some_name (is_free i) process

-- whether the number is that of a private one of the declared free names
abbrev pub is_private : List Declared → ℕ → Bool
is_private frees i = option_map_or (λ d. not d.public) (numbered frees i) false

-- whether the leaf is a private free name that no term of the main process holds
abbrev pub is_absent_name : Protocol → Name → Bool
is_absent_name P (Free i) = is_private P.frees i && not (process_holds i P.main)
is_absent_name P x = false

-- whether the query asks for a message with a private free name that no term of the main process holds
abbrev pub is_absent : Protocol → Query → Bool
is_absent P (Secret message phase) = some_leaf (is_absent_name P) message
is_absent P q = false

abbrev pub IsAbsent : Protocol → Query → Type 0
IsAbsent P q = IsTrue (is_absent P q)
