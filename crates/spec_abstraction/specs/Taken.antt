-- What a list of clauses holds of a process: the norms of all raw clauses of all its visits. This follows a thread down its process.
use Rattle.std.specs.Prelude.{ℕ, ◌+◌, Bool, Option, List}
use Rattle.std.specs.Option.{IfSome}
use Rattle.std.specs.List.{AllByRecursion}
use Rattle.spec_terms.specs.Term.{Term}
use Rattle.spec_calculus.specs.Syntax.{Process, Nil, Output, Input, Parallel, Replication, New, Let, Event, Phase, Insert, Get, Query, Protocol}
use Rattle.spec_calculus.specs.Points.{point_after}
use Rattle.spec_clauses.specs.Fact.{Tab, Ev, Clause}
use Rattle.spec_clauses.specs.Variables.{AreBelow}
use Rattle.spec_clauses.specs.Norm.{norms}
use Rattle.spec_clauses.specs.Inclusion.{Has}
use Rattle.spec_translation.specs.Conversion.{term_in, Fresh}
use Rattle.spec_translation.specs.Visit.{Visit, first_visit, visit_terms, sent, raw_clause, IsFresh, after_input, after_copy, after_new, event_terms, after_event, after_phase, written_terms}
use Rattle.spec_translation.specs.Choice.{AllGoOn, EntryGoesOn}
use Rattle.spec_translation.specs.Otherwise.{otherwise_visit}
use Rattle.spec_translation.specs.Attacker.{attacker_raw}
use Rattle.spec_translation.specs.Goal.{goal_raw}

-- the norms of a raw clause stand in the list
abbrev pub IsTaken : List (Clause Term) → Clause Term → Type 0
IsTaken all raw = AllByRecursion (Has all) (norms raw)

-- the list holds all that a visit of the process, and the visits below it, add
abbrev pub HasVisit : List (Clause Term) → Protocol → Process → ℕ → Visit → Type 0
HasVisit all P Nil point v = Unit {0}
HasVisit all P (Output channel message next) point v =
    IsTaken all (raw_clause v (sent P v.phase (term_in P v.scope channel) (term_in P v.scope message))) × HasVisit all P next (point + 1) v
HasVisit all P (Input channel pattern next) point v =
    (at : Fresh) × IsFresh v pattern at × HasVisit all P next (point + 1) (after_input P v channel pattern at)
HasVisit all P (Parallel left right) point v =
    HasVisit all P left (point + 1) v × HasVisit all P right (point_after (point + 1) left) v
HasVisit all P (Replication copied) point v =
    (n : ℕ) × AreBelow n (visit_terms v) × HasVisit all P copied (point + 1) (after_copy v n)
HasVisit all P (New word next) point v = HasVisit all P next (point + 1) (after_new v point)
HasVisit all P (Let pattern expression next otherwise) point v =
    (outs : List (Option Visit)) × AllGoOn P v pattern expression outs
    × AllByRecursion (λ out. IfSome out (λ w. HasVisit all P next (point + 1) w)) outs
    × HasVisit all P otherwise (point_after (point + 1) next) (otherwise_visit P v pattern expression)
HasVisit all P (Event performed next) point v =
    IsTaken all (raw_clause v (Ev performed.event (event_terms P v performed))) × HasVisit all P next (point + 1) (after_event P v performed)
HasVisit all P (Phase number next) point v = HasVisit all P next (point + 1) (after_phase v number)
HasVisit all P (Insert table arguments next) point v =
    IsTaken all (raw_clause v (Tab table (written_terms P v arguments))) × HasVisit all P next (point + 1) v
HasVisit all P (Get table patterns condition next otherwise) point v =
    (large : Bool) × (went : Option Visit) × EntryGoesOn P v table patterns condition large went
    × IfSome went (λ w. HasVisit all P next (point + 1) w) × HasVisit all P otherwise (point_after (point + 1) next) v

-- All that a translation holds: the norms of the attacker's raw clauses, of those of all visits, and of the goal.
pub record HoldsAll (P : Protocol) (q : Query) (all : List (Clause Term)) : Type 0 where
  pub attacker : AllByRecursion (IsTaken all) (attacker_raw P)
  pub process : HasVisit all P P.main 1 first_visit
  pub goal : IsTaken all (goal_raw P q)
