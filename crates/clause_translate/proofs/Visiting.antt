-- How the visits of each form of process end, by how those below it do.
use Rattle.std.proofs.Common.{◌≡◌, ◌⊎◌, ◌≤◌, ℕ, suc, ◌+◌, Bool, true, false, Result, Option, Some, None, List, [], ◌∷◌, ◌++◌, length, map, refl, ap, sym, subst, ◌∙◌, ◌||◌, inl, inr}
use Rattle.std.specs.Prelude.{IfOk}
use Rattle.spec_calculus.specs.Syntax.{Process, Nil, Output, Input, Parallel, Replication, New, Let, Event, Phase, Insert, Get, EventTerm, Pattern, Expression, Ruled, Condition, Protocol}
use Rattle.spec_calculus.specs.Syntax as calculus
use Rattle.spec_calculus.specs.Points.{point_after}
use Rattle.spec_trees.specs.Leaves.{leaves}
use Rattle.spec_calculus.specs.Limits.{compared}
use Rattle.spec_calculus.specs.Tables.{row_pattern}
use Rattle.spec_calculus.specs.Choices.{choices}
use Rattle.spec_terms.specs.Term.{Term}
use Rattle.spec_clauses.specs.Fact.{Clause}
use Rattle.spec_clauses.specs.Norm.{norms}
use Rattle.spec_clauses.specs.Variables.{AreBelow}
use Rattle.term_tree.specs.Bank.{Grows}
use Rattle.spec_translation.specs.Visit.{Visit, visit_terms, is_large_visit, after_input, after_copy, after_new, after_event, after_phase}
use Rattle.spec_translation.specs.Course as course
use Rattle.spec_translation.specs.Course.{Outcome, Done, TooLarge, Course, Unless, preceded}
use Rattle.spec_translation.specs.Choice.{EachGoesOn, AllGoOn, EntryGoesOn}
use Rattle.spec_translation.specs.Otherwise.{otherwise_visit}
use Rattle.spec_translation.specs.Visited.{some_large, EachThen, Received, Chosen, Fetched, Visited}
use Rattle.process_visits.specs.declared.listing.Listing.{Listing}
use Rattle.unified_visits.specs.declared.place.Place.{Place}
use Rattle.unified_visits.specs.declared.visit.Visit as source
use Rattle.unified_visits.specs.Places.{protocol_at, IsAt}
use Rattle.unified_visits.specs.Visits.{visit_at, NamesVisit}
use Rattle.process_visits.specs.Forms.{Lists, Adds, are_large_in, output_raw, is_large_output, insert_raw, is_large_insert, event_raw, is_large_event, AddsEvent, IsLargeInput, evaluated, received, Receives}
use Rattle.clause_translate.specs.Jobs.{Job, Once, Uncounted, Each, Runs, IsDone, Ends, EndsEach}
use Rattle.unified_visits.proofs.Named.{if_ok}
use Rattle.process_visits.proofs.Listings.{lists_none, lists_behind, lists_no_more}
use Rattle.process_visits.proofs.Courses.{unless_large, unless_small, each_join, each_large}
use Rattle.clause_form.specs.Seen.{IdClause}

-- the same job, where it runs so
pub ends_as : (P : Protocol) (below job : Job) (new : List Term) (before after : Listing) (large : Option ℕ) → ((out : Outcome) → Runs P below before.left out → Runs P job before.left out) → Ends P below new before after large → Ends P job new before after large
ends_as P below job new before after None step h = record { more = h.more; runs = step (Done h.more after.left) h.runs; lists = h.lists }
ends_as P below job new before after (Some point) step h = step (TooLarge point) h

-- a job behind clauses that are added
pub ends_behind : (P : Protocol) (below job : Job) (mid new : List Term) (before midway after : Listing) (more : List (Clause Term)) (large : Option ℕ) → Grows mid new → Lists mid before midway more
    → ((out : Outcome) → Runs P below midway.left out → Runs P job before.left (preceded more out)) → Ends P below new midway after large → Ends P job new before after large
ends_behind P below job mid new before midway after more None grows lists step h = record {
  more = more ++ h.more;
  runs = step (Done h.more after.left) h.runs;
  lists = lists_behind mid new before midway after more h.more grows lists h.lists;
}
ends_behind P below job mid new before midway after more (Some point) grows lists step h = step (TooLarge point) h

-- where there are no more clauses than before, the bank may go back
pub ends_back : (P : Protocol) (job : Job) (old now : List Term) (before after : Listing) (large : Option ℕ) → length after.clauses ≤ length before.clauses → Ends P job now before after large → Ends P job old before after large
ends_back P job old now before after None few h = record { more = h.more; runs = h.runs; lists = lists_no_more old now before after h.more few h.lists }
ends_back P job old now before after (Some point) few h = h

-- what the visit below tells, of the point and the visit as they are named here
pub moved : (P : Protocol) (point : ℕ) (v : Visit) (to : Place) (w : Visit) (process : Process) (new : List Term) (before after : Listing) (large : Option ℕ) → IsAt P point to → w ≡ v
    → Ends (protocol_at to) (Once process to.point w) new before after large → Ends P (Once process point v) new before after large
moved P point v to w process new before after large at e h =
    subst (λ (q : Protocol). Ends q (Once process point v) new before after large) at.protocol
    (subst (λ n. Ends (protocol_at to) (Once process n v) new before after large) at.point (subst (λ (x : Visit). Ends (protocol_at to) (Once process to.point x) new before after large) e h))

pub moved_each : (P : Protocol) (point : ℕ) (to : Place) (outs : List (Option Visit)) (process : Process) (new : List Term) (before after : Listing) (large : Option ℕ) → IsAt P point to
    → Ends (protocol_at to) (Each process to.point outs) new before after large → Ends P (Each process point outs) new before after large
moved_each P point to outs process new before after large at h =
    subst (λ (q : Protocol). Ends q (Each process point outs) new before after large) at.protocol (subst (λ n. Ends (protocol_at to) (Each process n outs) new before after large) at.point h)

-- none is left
pub none_left : (P : Protocol) (process : Process) (point : ℕ) (v : Visit) (left : ℕ) → left ≡ 0 → Visited P process point v left (TooLarge point)
none_left P process point v left e = subst (λ n. Visited P process point v n (TooLarge point)) (sym e) (go process) where
  go : (p : Process) → Visited P p point v 0 (TooLarge point)
  go Nil = refl
  go (Output channel message next) = refl
  go (Input channel pattern next) = refl
  go (Parallel left right) = refl
  go (Replication copied) = refl
  go (New word next) = refl
  go (Let pattern expression next otherwise) = refl
  go (Event performed next) = refl
  go (Phase number next) = refl
  go (Insert table arguments next) = refl
  go (Get table patterns condition next otherwise) = refl

-- one is counted
counted : (P : Protocol) (process : Process) (point : ℕ) (v : Visit) (new : List Term) (before low after : Listing) (large : Option ℕ) → low.clauses ≡ before.clauses → low.keeps ≡ before.keeps → before.left ≡ suc low.left
    → Ends P (Uncounted process point v) new low after large → Ends P (Once process point v) new before after large
counted P process point v new before low after None same kept less h = record {
  more = h.more;
  runs = subst (λ n. Visited P process point v n (Done h.more after.left)) (sym less) h.runs;
  lists = record {
    made = h.lists.made;
    clauses = h.lists.clauses ∙ ap (λ (cs : List IdClause). cs ++ h.lists.made) same;
    names = λ keeps. h.lists.names (kept ∙ keeps);
    low = λ keeps. h.lists.low (kept ∙ keeps);
    none = λ gone. h.lists.none (kept ∙ gone);
    keeps = h.lists.keeps ∙ kept;
  };
}
counted P process point v new before low after (Some q) same kept less h = subst (λ n. Visited P process point v n (TooLarge q)) (sym less) h

pub counted_ok : {E : Type 0} (r : Result (Option ℕ) E) (P : Protocol) (process : Process) (point : ℕ) (v : Visit) (new : List Term) (before low after : Listing) → low.clauses ≡ before.clauses → low.keeps ≡ before.keeps → before.left ≡ suc low.left
    → IfOk r (λ large. Ends P (Uncounted process point v) new low after large) → IfOk r (λ large. Ends P (Once process point v) new before after large)
counted_ok r P process point v new before low after same kept less h =
    if_ok r (λ large. Ends P (Uncounted process point v) new low after large) (λ large. Ends P (Once process point v) new before after large) (λ large k. counted P process point v new before low after large same kept less k) h

-- an output
pub output_large : (P : Protocol) (v : Visit) (channel message : calculus.Term) (next : Process) (point left : ℕ) → is_large_output P v channel message ≡ true → Visited P (Output channel message next) point v (suc left) (TooLarge point)
output_large P v channel message next point left e =
    unless_large (is_large_output P v channel message) point (course.Adds (norms (output_raw P v channel message)) (Visited P next (point + 1) v)) left e

pub output_ends : {E : Type 0} (r : Result (Option ℕ) E) (P : Protocol) (v : Visit) (channel message : calculus.Term) (next : Process) (point : ℕ) (to : Place) (w : Visit) (mid new : List Term) (before midway after : Listing)
    → IsAt P (point + 1) to → w ≡ v → is_large_output P v channel message ≡ false → Grows mid new → Adds mid before midway (norms (output_raw P v channel message))
    → IfOk r (λ large. Ends (protocol_at to) (Once next to.point w) new midway after large) → IfOk r (λ large. Ends P (Uncounted (Output channel message next) point v) new before after large)
output_ends r P v channel message next point to w mid new before midway after at e small grows adds h =
    if_ok r (λ large. Ends (protocol_at to) (Once next to.point w) new midway after large) (λ large. Ends P (Uncounted (Output channel message next) point v) new before after large)
    (λ large k. ends_behind P (Once next (point + 1) v) (Uncounted (Output channel message next) point v) mid new before midway after (norms (output_raw P v channel message)) large grows adds.lists
    (λ out run. unless_small (is_large_output P v channel message) point (course.Adds (norms (output_raw P v channel message)) (Visited P next (point + 1) v)) before.left (preceded (norms (output_raw P v channel message)) out) small
    (out, subst (λ n. Visited P next (point + 1) v n out) adds.left run, refl))
    (moved P (point + 1) v to w next new midway after large at e k)) h

-- an event
pub event_large : (P : Protocol) (v : Visit) (performed : EventTerm) (next : Process) (point left : ℕ) → is_large_event P v performed ≡ true → Visited P (Event performed next) point v (suc left) (TooLarge point)
event_large P v performed next point left e =
    unless_large (is_large_event P v performed) point (course.Adds (norms (event_raw P v performed)) (Visited P next (point + 1) (after_event P v performed))) left e

pub event_ends : {E : Type 0} (r : Result (Option ℕ) E) (P : Protocol) (v : Visit) (performed : EventTerm) (next : Process) (point : ℕ) (to : Place) (made : source.Visit) (mid new : List Term) (before midway after : Listing)
    → IsAt P (point + 1) to → Grows mid new → AddsEvent P v performed mid before midway made
    → IfOk r (λ large. Ends (protocol_at to) (Once next to.point (visit_at mid made)) new midway after large) → IfOk r (λ large. Ends P (Uncounted (Event performed next) point v) new before after large)
event_ends r P v performed next point to made mid new before midway after at grows adds h =
    if_ok r (λ large. Ends (protocol_at to) (Once next to.point (visit_at mid made)) new midway after large) (λ large. Ends P (Uncounted (Event performed next) point v) new before after large)
    (λ large k. ends_behind P (Once next (point + 1) (after_event P v performed)) (Uncounted (Event performed next) point v) mid new before midway after (norms (event_raw P v performed)) large grows adds.adds.lists
    (λ out run. unless_small (is_large_event P v performed) point (course.Adds (norms (event_raw P v performed)) (Visited P next (point + 1) (after_event P v performed))) before.left (preceded (norms (event_raw P v performed)) out) adds.small
    (out, subst (λ n. Visited P next (point + 1) (after_event P v performed) n out) adds.adds.left run, refl))
    (moved P (point + 1) (after_event P v performed) to (visit_at mid made) next new midway after large at adds.names.is k)) h

-- an input
pub input_large : (P : Protocol) (v : Visit) (channel : calculus.Term) (pattern : Pattern) (next : Process) (point left : ℕ) → IsLargeInput P v channel pattern → Visited P (Input channel pattern next) point v (suc left) (TooLarge point)
input_large P v channel pattern next point left (evaluated e) =
    unless_large (are_large_in P v.scope (channel ∷ compared pattern)) point (Received P v channel pattern (λ w. Unless (is_large_visit w) point (Visited P next (point + 1) w))) left e
input_large P v channel pattern next point left (received e at fresh l) =
    unless_small (are_large_in P v.scope (channel ∷ compared pattern)) point (Received P v channel pattern (λ w. Unless (is_large_visit w) point (Visited P next (point + 1) w))) left (TooLarge point) e
    (at, fresh, unless_large (is_large_visit (after_input P v channel pattern at)) point (Visited P next (point + 1) (after_input P v channel pattern at)) left l)

pub input_ends : {E : Type 0} (r : Result (Option ℕ) E) (P : Protocol) (v : Visit) (channel : calculus.Term) (pattern : Pattern) (next : Process) (point : ℕ) (to : Place) (made : source.Visit) (mid new : List Term) (before after : Listing)
    → IsAt P (point + 1) to → Receives P v channel pattern mid made
    → IfOk r (λ large. Ends (protocol_at to) (Once next to.point (visit_at mid made)) new before after large) → IfOk r (λ large. Ends P (Uncounted (Input channel pattern next) point v) new before after large)
input_ends r P v channel pattern next point to made mid new before after at got h =
    let w = after_input P v channel pattern got.at in
    if_ok r (λ large. Ends (protocol_at to) (Once next to.point (visit_at mid made)) new before after large) (λ large. Ends P (Uncounted (Input channel pattern next) point v) new before after large)
    (λ large k. ends_as P (Once next (point + 1) w) (Uncounted (Input channel pattern next) point v) new before after large
    (λ out run. unless_small (are_large_in P v.scope (channel ∷ compared pattern)) point (Received P v channel pattern (λ x. Unless (is_large_visit x) point (Visited P next (point + 1) x))) before.left out got.small
    (got.at, got.is_fresh, unless_small (is_large_visit w) point (Visited P next (point + 1) w) before.left out got.is_small run))
    (moved P (point + 1) w to (visit_at mid made) next new before after large at got.names.is k)) h

-- a replication
pub copies_ends : {E : Type 0} (r : Result (Option ℕ) E) (P : Protocol) (v : Visit) (n : ℕ) (copied : Process) (point : ℕ) (to : Place) (made : source.Visit) (mid new : List Term) (before after : Listing)
    → IsAt P (point + 1) to → AreBelow n (visit_terms v) → NamesVisit mid made (after_copy v n)
    → IfOk r (λ large. Ends (protocol_at to) (Once copied to.point (visit_at mid made)) new before after large) → IfOk r (λ large. Ends P (Uncounted (Replication copied) point v) new before after large)
copies_ends r P v n copied point to made mid new before after at below names h =
    if_ok r (λ large. Ends (protocol_at to) (Once copied to.point (visit_at mid made)) new before after large) (λ large. Ends P (Uncounted (Replication copied) point v) new before after large)
    (λ large k. ends_as P (Once copied (point + 1) (after_copy v n)) (Uncounted (Replication copied) point v) new before after large (λ out run. (n, below, run))
    (moved P (point + 1) (after_copy v n) to (visit_at mid made) copied new before after large at names.is k)) h

-- a restriction
pub new_large : (P : Protocol) (v : Visit) (next : Process) (point left : ℕ) → is_large_visit (after_new v point) ≡ true → Visited P (New [] next) point v (suc left) (TooLarge point)
new_large P v next point left e = unless_large (is_large_visit (after_new v point)) point (Visited P next (point + 1) (after_new v point)) left e

pub new_ends : {E : Type 0} (r : Result (Option ℕ) E) (P : Protocol) (v : Visit) (next : Process) (point : ℕ) (to : Place) (made : source.Visit) (mid new : List Term) (before after : Listing)
    → IsAt P (point + 1) to → is_large_visit (after_new v point) ≡ false → NamesVisit mid made (after_new v point)
    → IfOk r (λ large. Ends (protocol_at to) (Once next to.point (visit_at mid made)) new before after large) → IfOk r (λ large. Ends P (Uncounted (New [] next) point v) new before after large)
new_ends r P v next point to made mid new before after at small names h =
    if_ok r (λ large. Ends (protocol_at to) (Once next to.point (visit_at mid made)) new before after large) (λ large. Ends P (Uncounted (New [] next) point v) new before after large)
    (λ large k. ends_as P (Once next (point + 1) (after_new v point)) (Uncounted (New [] next) point v) new before after large
    (λ out run. unless_small (is_large_visit (after_new v point)) point (Visited P next (point + 1) (after_new v point)) before.left out small run)
    (moved P (point + 1) (after_new v point) to (visit_at mid made) next new before after large at names.is k)) h

-- two processes in parallel
pub left_large : (P : Protocol) (v : Visit) (left right : Process) (point count q : ℕ) → Visited P left (point + 1) v count (TooLarge q) → Visited P (Parallel left right) point v (suc count) (TooLarge q)
left_large P v left right point count q h = (TooLarge q, h, refl)

pub parallel_ends : {E : Type 0} (r : Result (Option ℕ) E) (P : Protocol) (v : Visit) (left right : Process) (point : ℕ) (to : Place) (w : Visit) (mid new : List Term) (before midway after : Listing)
    → IsAt P (point_after (point + 1) left) to → w ≡ v → Grows mid new → IsDone P (Once left (point + 1) v) mid before midway
    → IfOk r (λ large. Ends (protocol_at to) (Once right to.point w) new midway after large) → IfOk r (λ large. Ends P (Uncounted (Parallel left right) point v) new before after large)
parallel_ends r P v left right point to w mid new before midway after at e grows done h =
    if_ok r (λ large. Ends (protocol_at to) (Once right to.point w) new midway after large) (λ large. Ends P (Uncounted (Parallel left right) point v) new before after large)
    (λ large k. ends_behind P (Once right (point_after (point + 1) left) v) (Uncounted (Parallel left right) point v) mid new before midway after done.more large grows done.lists
    (λ out run. (Done done.more midway.left, done.runs, (out, run, refl)))
    (moved P (point_after (point + 1) left) v to w right new midway after large at e k)) h

-- a `let`
module _ (P : Protocol) (v : Visit) (pattern : Pattern) (expression : Expression) (next otherwise : Process) (point : ℕ) where
  abbrev evaluates : Bool
  evaluates = are_large_in P v.scope (compared pattern ++ leaves expression)

  abbrev last : Course
  last left out = Visited P otherwise (point_after (point + 1) next) (otherwise_visit P v pattern expression) left out

  abbrev each : List (Option Visit) → Course
  each outs left out = EachThen (λ w. Visited P next (point + 1) w) outs last left out

  pub let_large : (left : ℕ) → are_large_in P v.scope (compared pattern ++ leaves expression) ≡ true → Visited P (Let pattern expression next otherwise) point v (suc left) (TooLarge point)
  let_large left e = unless_large evaluates point (Chosen P v pattern expression point (λ w. Visited P next (point + 1) w) last) left e

  chosen : (left : ℕ) (out : Outcome) (outs : List (Option Visit)) → evaluates ≡ false → AllGoOn P v pattern expression outs → Unless (some_large outs) point (each outs) left out → Visited P (Let pattern expression next otherwise) point v (suc left) out
  chosen left out outs e go h = unless_small evaluates point (Chosen P v pattern expression point (λ w. Visited P next (point + 1) w) last) left out e (outs, go, h)

  pub choice_large : (left : ℕ) (outs : List (Option Visit)) → are_large_in P v.scope (compared pattern ++ leaves expression) ≡ false → AllGoOn P v pattern expression outs → some_large outs ≡ true → Visited P (Let pattern expression next otherwise) point v (suc left) (TooLarge point)
  choice_large left outs e go large = chosen left (TooLarge point) outs e go (unless_large (some_large outs) point (each outs) left large)

  module _ (rs : List Ruled) (are : rs ≡ map (λ c. c.ruled) (choices P expression)) (e : are_large_in P v.scope (compared pattern ++ leaves expression) ≡ false) where
    all_go : (outs : List (Option Visit)) → EachGoesOn P v pattern rs outs → AllGoOn P v pattern expression outs
    all_go outs go = subst (λ (l : List Ruled). EachGoesOn P v pattern l outs) are go

    pub next_large : (all : List Term) (before after : Listing) (q : ℕ) → EndsEach P v pattern rs next (point + 1) all before after (Some q) → Visited P (Let pattern expression next otherwise) point v (suc before.left) (TooLarge q)
    next_large all before after q h =
        chosen before.left (TooLarge q) h.outs e (all_go h.outs h.go) (unless_small (some_large h.outs) point (each h.outs) before.left (TooLarge q) h.small
        (each_large (λ w. Visited P next (point + 1) w) h.outs last before.left q h.ends))

    pub let_ends : {E : Type 0} (r : Result (Option ℕ) E) (to : Place) (w : Visit) (mid new : List Term) (before midway after : Listing) → IsAt P (point_after (point + 1) next) to → w ≡ otherwise_visit P v pattern expression → Grows mid new → EndsEach P v pattern rs next (point + 1) mid before midway None
        → IfOk r (λ large. Ends (protocol_at to) (Once otherwise to.point w) new midway after large) → IfOk r (λ large. Ends P (Uncounted (Let pattern expression next otherwise) point v) new before after large)
    let_ends r to w mid new before midway after at same grows first h =
        let done = first.ends in
        if_ok r (λ large. Ends (protocol_at to) (Once otherwise to.point w) new midway after large) (λ large. Ends P (Uncounted (Let pattern expression next otherwise) point v) new before after large)
        (λ large k. ends_behind P (Once otherwise (point_after (point + 1) next) (otherwise_visit P v pattern expression)) (Uncounted (Let pattern expression next otherwise) point v) mid new before midway after done.more large grows done.lists
        (λ out run. chosen before.left (preceded done.more out) first.outs e (all_go first.outs first.go) (unless_small (some_large first.outs) point (each first.outs) before.left (preceded done.more out) first.small
        (each_join (λ x. Visited P next (point + 1) x) first.outs last before.left midway.left done.more out done.runs run)))
        (moved P (point_after (point + 1) next) (otherwise_visit P v pattern expression) to w otherwise new midway after large at same k)) h

-- a wait for a phase
pub phase_ends : {E : Type 0} (r : Result (Option ℕ) E) (P : Protocol) (v : Visit) (number : ℕ) (next : Process) (point : ℕ) (to : Place) (made : source.Visit) (old new : List Term) (before after : Listing)
    → IsAt P (point + 1) to → NamesVisit old made (after_phase v number)
    → IfOk r (λ large. Ends (protocol_at to) (Once next to.point (visit_at old made)) new before after large) → IfOk r (λ large. Ends P (Uncounted (Phase number next) point v) new before after large)
phase_ends r P v number next point to made old new before after at names h =
    if_ok r (λ large. Ends (protocol_at to) (Once next to.point (visit_at old made)) new before after large) (λ large. Ends P (Uncounted (Phase number next) point v) new before after large)
    (λ large k. ends_as P (Once next (point + 1) (after_phase v number)) (Uncounted (Phase number next) point v) new before after large (λ out run. run)
    (moved P (point + 1) (after_phase v number) to (visit_at old made) next new before after large at names.is k)) h

-- an `insert`
pub insert_large : (P : Protocol) (v : Visit) (table : ℕ) (arguments : List calculus.Term) (next : Process) (point left : ℕ) → is_large_insert P v table arguments ≡ true → Visited P (Insert table arguments next) point v (suc left) (TooLarge point)
insert_large P v table arguments next point left e =
    unless_large (is_large_insert P v table arguments) point (course.Adds (norms (insert_raw P v table arguments)) (Visited P next (point + 1) v)) left e

pub insert_ends : {E : Type 0} (r : Result (Option ℕ) E) (P : Protocol) (v : Visit) (table : ℕ) (arguments : List calculus.Term) (next : Process) (point : ℕ) (to : Place) (w : Visit) (mid new : List Term) (before midway after : Listing)
    → IsAt P (point + 1) to → w ≡ v → is_large_insert P v table arguments ≡ false → Grows mid new → Adds mid before midway (norms (insert_raw P v table arguments))
    → IfOk r (λ large. Ends (protocol_at to) (Once next to.point w) new midway after large) → IfOk r (λ large. Ends P (Uncounted (Insert table arguments next) point v) new before after large)
insert_ends r P v table arguments next point to w mid new before midway after at e small grows adds h =
    if_ok r (λ large. Ends (protocol_at to) (Once next to.point w) new midway after large) (λ large. Ends P (Uncounted (Insert table arguments next) point v) new before after large)
    (λ large k. ends_behind P (Once next (point + 1) v) (Uncounted (Insert table arguments next) point v) mid new before midway after (norms (insert_raw P v table arguments)) large grows adds.lists
    (λ out run. unless_small (is_large_insert P v table arguments) point (course.Adds (norms (insert_raw P v table arguments)) (Visited P next (point + 1) v)) before.left (preceded (norms (insert_raw P v table arguments)) out) small
    (out, subst (λ n. Visited P next (point + 1) v n out) adds.left run, refl))
    (moved P (point + 1) v to w next new midway after large at e k)) h

-- a `get`
module _ (P : Protocol) (v : Visit) (table : ℕ) (patterns : List Pattern) (condition : Condition) (next otherwise : Process) (point : ℕ) where
  abbrev compares : Bool
  compares = are_large_in P v.scope (compared (row_pattern patterns))

  abbrev behind_entry : Course
  behind_entry left out = Visited P otherwise (point_after (point + 1) next) v left out

  abbrev with_it : Option Visit → Course
  with_it went left out = EachThen (λ w. Visited P next (point + 1) w) (went ∷ []) behind_entry left out

  pub get_large : (left : ℕ) → are_large_in P v.scope (compared (row_pattern patterns)) ≡ true → Visited P (Get table patterns condition next otherwise) point v (suc left) (TooLarge point)
  get_large left e = unless_large compares point (Fetched P v table patterns condition point (λ w. Visited P next (point + 1) w) behind_entry) left e

  fetched : (left : ℕ) (out : Outcome) (large : Bool) (went : Option Visit) → compares ≡ false → EntryGoesOn P v table patterns condition large went → Unless (large || some_large (went ∷ [])) point (with_it went) left out → Visited P (Get table patterns condition next otherwise) point v (suc left) out
  fetched left out large went e go h = unless_small compares point (Fetched P v table patterns condition point (λ w. Visited P next (point + 1) w) behind_entry) left out e (large, went, go, h)

  pub entry_large : (left : ℕ) (large : Bool) (went : Option Visit) → are_large_in P v.scope (compared (row_pattern patterns)) ≡ false → EntryGoesOn P v table patterns condition large went → (large || some_large (went ∷ [])) ≡ true
      → Visited P (Get table patterns condition next otherwise) point v (suc left) (TooLarge point)
  entry_large left large went e go over = fetched left (TooLarge point) large went e go (unless_large (large || some_large (went ∷ [])) point (with_it went) left over)

  module _ (large : Bool) (went : Option Visit) (e : are_large_in P v.scope (compared (row_pattern patterns)) ≡ false) (go : EntryGoesOn P v table patterns condition large went) (small : (large || some_large (went ∷ [])) ≡ false) where
    pub entry_next_large : (all : List Term) (before after : Listing) (q : ℕ) → Ends P (Each next (point + 1) (went ∷ [])) all before after (Some q) → Visited P (Get table patterns condition next otherwise) point v (suc before.left) (TooLarge q)
    entry_next_large all before after q h =
        fetched before.left (TooLarge q) large went e go (unless_small (large || some_large (went ∷ [])) point (with_it went) before.left (TooLarge q) small
        (each_large (λ w. Visited P next (point + 1) w) (went ∷ []) behind_entry before.left q h))

    pub get_ends : {E : Type 0} (r : Result (Option ℕ) E) (to : Place) (w : Visit) (mid new : List Term) (before midway after : Listing) → IsAt P (point_after (point + 1) next) to → w ≡ v → Grows mid new → IsDone P (Each next (point + 1) (went ∷ [])) mid before midway
        → IfOk r (λ large. Ends (protocol_at to) (Once otherwise to.point w) new midway after large) → IfOk r (λ large. Ends P (Uncounted (Get table patterns condition next otherwise) point v) new before after large)
    get_ends r to w mid new before midway after at same grows done h =
        if_ok r (λ large. Ends (protocol_at to) (Once otherwise to.point w) new midway after large) (λ large. Ends P (Uncounted (Get table patterns condition next otherwise) point v) new before after large)
        (λ over k. ends_behind P (Once otherwise (point_after (point + 1) next) v) (Uncounted (Get table patterns condition next otherwise) point v) mid new before midway after done.more over grows done.lists
        (λ out run. fetched before.left (preceded done.more out) large went e go (unless_small (large || some_large (went ∷ [])) point (with_it went) before.left (preceded done.more out) small
        (each_join (λ x. Visited P next (point + 1) x) (went ∷ []) behind_entry before.left midway.left done.more out done.runs run)))
        (moved P (point_after (point + 1) next) v to w otherwise new midway after over at same k)) h

-- a process does nothing, or something
pub nil_or : (process : Process) → (process ≡ Nil) ⊎ (process ≡ Nil → ⊥)
nil_or Nil = inl refl
nil_or (Output channel message next) = inr (λ e. cc)
nil_or (Input channel pattern next) = inr (λ e. cc)
nil_or (Parallel left right) = inr (λ e. cc)
nil_or (Replication copied) = inr (λ e. cc)
nil_or (New word next) = inr (λ e. cc)
nil_or (Let pattern expression next otherwise) = inr (λ e. cc)
nil_or (Event performed next) = inr (λ e. cc)
nil_or (Phase number next) = inr (λ e. cc)
nil_or (Insert table arguments next) = inr (λ e. cc)
nil_or (Get table patterns condition next otherwise) = inr (λ e. cc)

-- an else branch, at the visit that it has: one that does nothing is the same at each
pub else_ends : {E : Type 0} (r : Result (Option ℕ) E) (P : Protocol) (process : Process) (point : ℕ) (made v : Visit) (new : List Term) (before after : Listing) → ((process ≡ Nil → ⊥) → made ≡ v)
    → IfOk r (λ large. Ends P (Once process point made) new before after large) → IfOk r (λ large. Ends P (Once process point v) new before after large)
else_ends r P process point made v new before after named h = go (nil_or process) where
  go : (process ≡ Nil) ⊎ (process ≡ Nil → ⊥) → IfOk r (λ large. Ends P (Once process point v) new before after large)
  go (inl e) =
      if_ok r (λ large. Ends P (Once process point made) new before after large) (λ large. Ends P (Once process point v) new before after large)
      (λ large k. ends_as P (Once process point made) (Once process point v) new before after large
      (λ out. subst (λ (p : Process). Visited P p point made before.left out → Visited P p point v before.left out) (sym e) (λ run. run)) k) h
  go (inr other) = subst (λ (w : Visit). IfOk r (λ large. Ends P (Once process point w) new before after large)) (named other) h

-- nothing
pub nil_ends : (P : Protocol) (point : ℕ) (v : Visit) (all : List Term) (listing : Listing) → Ends P (Uncounted Nil point v) all listing listing None
nil_ends P point v all listing = record { more = []; runs = refl; lists = lists_none all listing }

-- a restriction, however its name is spelled
pub spelled : {E : Type 0} (r : Result (Option ℕ) E) (P : Protocol) (word : List ℕ) (next : Process) (point : ℕ) (v : Visit) (new : List Term) (before after : Listing)
    → IfOk r (λ large. Ends P (Uncounted (New [] next) point v) new before after large) → IfOk r (λ large. Ends P (Uncounted (New word next) point v) new before after large)
spelled r P word next point v new before after h =
    if_ok r (λ large. Ends P (Uncounted (New [] next) point v) new before after large) (λ large. Ends P (Uncounted (New word next) point v) new before after large) (λ large k. go large k) h where
      go : (large : Option ℕ) → Ends P (Uncounted (New [] next) point v) new before after large → Ends P (Uncounted (New word next) point v) new before after large
      go None k = record { more = k.more; runs = k.runs; lists = k.lists }
      go (Some q) k = k
