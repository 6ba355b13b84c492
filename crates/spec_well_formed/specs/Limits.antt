-- Limits: of names, arguments, rules, symbols, queries and points.
use Rattle.std.specs.Prelude.{◌+◌, ◌<◌, ◌≤◌, List, length}
use Rattle.std.specs.List.{AllByRecursion}
use Rattle.spec_trees.specs.Tree.{trees, size, sizes}
use Rattle.spec_calculus.specs.Bounds.{most_names, most_arguments, most_rules, most_alternatives, most_events, most_queries, most_written_symbols, most_points, most_points_above, most_phases}
use Rattle.spec_calculus.specs.Syntax.{Rule, Destructor, EventTerm, Query, Secret, SecretNew, Correspondence, Protocol}
use Rattle.spec_calculus.specs.Points.{nodes, greatest_phase}
use Rattle.spec_well_formed.specs.Processes.{height, AreSmallEntries}

-- within the limits of arguments, and of written symbols with the destructor's name
pub record IsSmallRule (rule : Rule) : Type 0 where
  pub arguments : length rule.left ≤ most_arguments
  pub symbols : 1 + sizes (trees rule.left) + size rule.right ≤ most_written_symbols

-- at least one rule, and no more than the limit
pub record IsSmallDestructor (destructor : Destructor) : Type 0 where
  pub some : 0 < length destructor.rules
  pub few : length destructor.rules ≤ most_rules
  pub rules : AllByRecursion IsSmallRule destructor.rules

-- within the limit of written symbols with the event's name
abbrev pub IsSmallEvent : EventTerm → Type 0
IsSmallEvent e = 1 + sizes (trees e.arguments) ≤ most_written_symbols

-- within the limit of events
abbrev pub IsSmallAlternative : List EventTerm → Type 0
IsSmallAlternative events = (length events ≤ most_events) × AllByRecursion IsSmallEvent events

-- within the limit of alternatives
abbrev pub IsSmallQuery : Query → Type 0
IsSmallQuery (Secret message phase) = size message ≤ most_written_symbols
IsSmallQuery (SecretNew point phase) = Unit {0}
IsSmallQuery (Correspondence left alternatives) =
    IsSmallEvent left × (length alternatives ≤ most_alternatives) × AllByRecursion IsSmallAlternative alternatives

-- a protocol within the limits: of names, of the arguments of each, of queries, of points, of the points above a point, of phases,
-- and of the terms of entries
pub record IsWithinLimits (P : Protocol) : Type 0 where
  pub names : length P.frees + length P.constructors + length P.destructors + length P.events + length P.tables ≤ most_names
  pub constructors : AllByRecursion (λ d. d.arity ≤ most_arguments) P.constructors
  pub events : AllByRecursion (λ d. d.arity ≤ most_arguments) P.events
  pub tables : AllByRecursion (λ d. d.arity ≤ most_arguments) P.tables
  pub destructors : AllByRecursion IsSmallDestructor P.destructors
  pub queries : length P.queries ≤ most_queries
  pub asked : AllByRecursion IsSmallQuery P.queries
  pub points : length (nodes P.main) ≤ most_points
  pub way : height P.main ≤ 1 + most_points_above
  pub phases : greatest_phase P.main ≤ most_phases
  pub entries : AreSmallEntries P.main
