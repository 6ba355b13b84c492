-- The visits of a process in pre-order, and the clauses that they add (Blanchet 2016, section 3.3.2). Which new variables and which
-- most general unifiers are taken is left open: the clauses are their norms, and so the same.
use Rattle.std.specs.Prelude.{ℕ, ◌+◌, Bool, false, ◌||◌, Option, Some, None, List, [], ◌∷◌}
use Rattle.std.specs.List.{list_any}
use Rattle.std.specs.Option.{option_map_or}
use Rattle.spec_calculus.specs.Syntax.{Process, Nil, Output, Input, Parallel, Replication, New, Let, Event, Phase, Insert, Get, EventTerm, Pattern, Expression, Condition, Protocol}
use Rattle.spec_calculus.specs.Syntax as calculus
use Rattle.spec_calculus.specs.Points.{point_after}
use Rattle.spec_clauses.specs.Fact.{Tab, Ev}
use Rattle.spec_clauses.specs.Variables.{AreBelow}
use Rattle.spec_clauses.specs.Norm.{norms}
use Rattle.spec_clauses.specs.Limits.{is_large_raw}
use Rattle.spec_translation.specs.Conversion.{term_in, Fresh}
use Rattle.spec_translation.specs.Visit.{Visit, visit_terms, is_large_visit, evaluates_large, sent, raw_clause, IsFresh, after_input, after_copy, after_new, event_terms, after_event, after_phase, written_terms}
use Rattle.spec_translation.specs.Choice.{AllGoOn, EntryGoesOn}
use Rattle.spec_translation.specs.Otherwise.{otherwise_visit}
use Rattle.spec_translation.specs.Course.{Outcome, Course, Finished, Counted, Unless, Then, Adds}

-- whether a visit that goes on is too large
abbrev pub some_large : List (Option Visit) → Bool
some_large outs = list_any (λ out. option_map_or is_large_visit out false) outs

-- each visit that goes on in order, and then the course
abbrev pub EachThen : (Visit → ℕ → Outcome → Type 0) → List (Option Visit) → Course → Course
EachThen R [] last left out = last left out
EachThen R (None ∷ outs) last left out = EachThen R outs last left out
EachThen R (Some v ∷ outs) last left out = Then (R v) (EachThen R outs last) left out

-- a new variable for a copy's number
abbrev pub Copied : Visit → (Visit → ℕ → Outcome → Type 0) → Course
Copied v R left out = (n : ℕ) × AreBelow n (visit_terms v) × R (after_copy v n) left out

-- a new variable for each that a pattern binds
abbrev pub Received : Protocol → Visit → calculus.Term → Pattern → (Visit → ℕ → Outcome → Type 0) → Course
Received P v channel pattern R left out = (at : Fresh) × IsFresh v pattern at × R (after_input P v channel pattern at) left out

-- all choices of a `let` are looked at before any visit below it
abbrev pub Chosen : Protocol → Visit → Pattern → Expression → ℕ → (Visit → ℕ → Outcome → Type 0) → Course → Course
Chosen P v pattern expression point R last left out =
    (outs : List (Option Visit)) × AllGoOn P v pattern expression outs × Unless (some_large outs) point (EachThen R outs last) left out

-- the entry that a `get` takes is looked at before any visit below it
abbrev pub Fetched : Protocol → Visit → ℕ → List Pattern → Condition → ℕ → (Visit → ℕ → Outcome → Type 0) → Course → Course
Fetched P v table patterns condition point R last left out =
    (large : Bool) × (went : Option Visit) × EntryGoesOn P v table patterns condition large went
    × Unless (large || some_large (went ∷ [])) point (EachThen R (went ∷ []) last) left out

-- the visits of the process that begins at the point
abbrev pub Visited : Protocol → Process → ℕ → Visit → Course
Visited P Nil point v = Counted point Finished
Visited P (Output channel message next) point v =
    let raw = raw_clause v (sent P v.phase (term_in P v.scope channel) (term_in P v.scope message)) in
    Counted point (Unless (evaluates_large P v (Output channel message next) || is_large_raw raw) point
    (Adds (norms raw) (Visited P next (point + 1) v)))
Visited P (Input channel pattern next) point v =
    Counted point (Unless (evaluates_large P v (Input channel pattern next)) point
    (Received P v channel pattern (λ w. Unless (is_large_visit w) point (Visited P next (point + 1) w))))
Visited P (Parallel left right) point v =
    Counted point (Then (Visited P left (point + 1) v) (Visited P right (point_after (point + 1) left) v))
Visited P (Replication copied) point v = Counted point (Copied v (λ w. Visited P copied (point + 1) w))
Visited P (New word next) point v =
    let w = after_new v point in Counted point (Unless (is_large_visit w) point (Visited P next (point + 1) w))
Visited P (Let pattern expression next otherwise) point v =
    Counted point (Unless (evaluates_large P v (Let pattern expression next otherwise)) point
    (Chosen P v pattern expression point (λ w. Visited P next (point + 1) w)
    (Visited P otherwise (point_after (point + 1) next) (otherwise_visit P v pattern expression))))
Visited P (Event performed next) point v =
    let raw = raw_clause v (Ev performed.event (event_terms P v performed)) in
    let w = after_event P v performed in
    Counted point (Unless (evaluates_large P v (Event performed next) || (is_large_raw raw || is_large_visit w)) point
    (Adds (norms raw) (Visited P next (point + 1) w)))
Visited P (Phase number next) point v = Counted point (Visited P next (point + 1) (after_phase v number))
Visited P (Insert table arguments next) point v =
    let raw = raw_clause v (Tab table (written_terms P v arguments)) in
    Counted point (Unless (evaluates_large P v (Insert table arguments next) || is_large_raw raw) point
    (Adds (norms raw) (Visited P next (point + 1) v)))
Visited P (Get table patterns condition next otherwise) point v =
    Counted point (Unless (evaluates_large P v (Get table patterns condition next otherwise)) point
    (Fetched P v table patterns condition point (λ w. Visited P next (point + 1) w) (Visited P otherwise (point_after (point + 1) next) v)))
