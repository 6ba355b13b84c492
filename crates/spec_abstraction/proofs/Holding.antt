-- The translation of a protocol and a query holds the norms of all raw clauses: the attacker's, those of all visits, the goal's.
use Rattle.std.proofs.Common.{◌≡◌, ℕ, zero, suc, ◌+◌, Bool, true, false, ◌||◌, Option, Some, None, List, [], ◌∷◌, ◌++◌, subst}
use Rattle.std.specs.Prelude.{flat_map}
use Rattle.std.specs.Option.{IfSome}
use Rattle.std.specs.List.{AllByRecursion}
use Rattle.spec_calculus.specs.Syntax.{Process, Nil, Output, Input, Parallel, Replication, New, Let, Event, Phase, Insert, Get, Query, Protocol}
use Rattle.spec_calculus.specs.Points.{point_after}
use Rattle.spec_calculus.specs.Bounds.{most_visits}
use Rattle.spec_terms.specs.Term.{Term}
use Rattle.spec_clauses.specs.Fact.{Tab, Ev, Clause}
use Rattle.spec_clauses.specs.Variables.{AreBelow}
use Rattle.spec_clauses.specs.Norm.{norms}
use Rattle.spec_clauses.specs.Limits.{is_large_raw}
use Rattle.spec_clauses.specs.Inclusion.{here, there, Has}
use Rattle.spec_clauses.proofs.Inclusion.{Has-append_left, Has-append_right}
use Rattle.spec_translation.specs.Conversion.{Fresh, term_in}
use Rattle.spec_translation.specs.Attacker.{attacker_raw}
use Rattle.spec_translation.specs.Visit.{Visit, visit_terms, first_visit, is_large_visit, evaluates_large, sent, raw_clause, IsFresh, after_input, after_copy, after_new, event_terms, after_event, after_phase, written_terms}
use Rattle.spec_translation.specs.Choice.{AllGoOn, EntryGoesOn}
use Rattle.spec_translation.specs.Otherwise.{otherwise_visit}
use Rattle.spec_translation.specs.Course.{Outcome, Done, TooLarge, Course, Counted, Unless, preceded, After, Then, Adds}
use Rattle.spec_translation.specs.Visited.{some_large, EachThen, Copied, Received, Chosen, Fetched, Visited}
use Rattle.spec_translation.specs.Translation.{Clauses, attacker_clauses, goal_clauses, whole, IsTranslation}
use Rattle.spec_abstraction.specs.Taken.{IsTaken, HasVisit, HoldsAll}

-- each clause of the one list stands in the other
abbrev pub ArePart : List (Clause Term) → List (Clause Term) → Type 0
ArePart clauses all = (c : Clause Term) → Has clauses c → Has all c

pub all_part : (clauses all : List (Clause Term)) → ArePart clauses all → AllByRecursion (Has all) clauses
all_part [] all part = tt
all_part (c ∷ cs) all part = (part c (cs, here), all_part cs all (λ d h. part d (c ∷ h.0, there h.1)))

pub part_first : (xs ys all : List (Clause Term)) → ArePart (xs ++ ys) all → ArePart xs all
part_first xs ys all part c h = part c (Has-append_left xs ys c h)

pub part_second : (xs ys all : List (Clause Term)) → ArePart (xs ++ ys) all → ArePart ys all
part_second xs ys all part c h = part c (Has-append_right xs ys c h)

-- a course that is done gives this of each list that has its clauses
abbrev pub Yields : Course → (List (Clause Term) → Type 0) → Type 0
Yields R G = (left rest : ℕ) (clauses all : List (Clause Term)) → R left (Done clauses rest) → ArePart clauses all → G all

counted_yields : (point : ℕ) (R : Course) (G : List (Clause Term) → Type 0) → Yields R G → Yields (Counted point R) G
counted_yields point R G yields zero rest clauses all x part = cc
counted_yields point R G yields (suc left) rest clauses all x part = yields left rest clauses all x part

unless_yields : (b : Bool) (point : ℕ) (R : Course) (G : List (Clause Term) → Type 0) → Yields R G → Yields (Unless b point R) G
unless_yields true point R G yields left rest clauses all x part = cc
unless_yields false point R G yields left rest clauses all x part = yields left rest clauses all x part

after_yields : (first : List (Clause Term)) (left : ℕ) (R : Course) (G : List (Clause Term) → Type 0) → Yields R G → (rest : ℕ) (clauses all : List (Clause Term)) → After (Done first left) R (Done clauses rest) → ArePart clauses all → ArePart first all × G all
after_yields first left R G yields rest clauses all x part = go x.0 x.1 x.2
  where
    go : (out : Outcome) → R left out → Done clauses rest ≡ preceded first out → ArePart first all × G all
    go (TooLarge point) r e = cc
    go (Done more last) r e =
        let same : clauses ≡ first ++ more = cc in
        let parts : ArePart (first ++ more) all = subst (λ cs. ArePart cs all) same part in
        (part_first first more all parts, yields left last more all r (part_second first more all parts))

then_yields : (R S : Course) (G H : List (Clause Term) → Type 0) → Yields R G → Yields S H → Yields (Then R S) (λ all. G all × H all)
then_yields R S G H first second left rest clauses all x part = go x.0 x.1 x.2
  where
    go : (out : Outcome) → R left out → After out S (Done clauses rest) → G all × H all
    go (TooLarge point) r e = cc
    go (Done more last) r e =
        let both = after_yields more last S H second rest clauses all e part in
        (first left last more all r both.0, both.1)

adds_yields : (first : List (Clause Term)) (R : Course) (G : List (Clause Term) → Type 0) → Yields R G → Yields (Adds first R) (λ all. AllByRecursion (Has all) first × G all)
adds_yields first R G yields left rest clauses all x part =
    let both = after_yields first left R G yields rest clauses all x part in (all_part first all both.0, both.1)

each_yields : (R : Visit → ℕ → Outcome → Type 0) (T : Course) (G : List (Clause Term) → Visit → Type 0) (H : List (Clause Term) → Type 0) → ((v : Visit) → Yields (R v) (λ all. G all v)) → Yields T H → (outs : List (Option Visit)) → Yields (EachThen R outs T) (λ all. AllByRecursion (λ out. IfSome out (G all)) outs × H all)
each_yields R T G H each last [] left rest clauses all x part = (tt, last left rest clauses all x part)
each_yields R T G H each last (None ∷ outs) left rest clauses all x part =
    let others = each_yields R T G H each last outs left rest clauses all x part in ((tt, others.0), others.1)
each_yields R T G H each last (Some v ∷ outs) left rest clauses all x part =
    let both = then_yields (R v) (EachThen R outs T) (λ a. G a v) (λ a. AllByRecursion (λ out. IfSome out (G a)) outs × H a) (each v) (each_yields R T G H each last outs) left rest clauses all x part in
    ((both.0, both.1.0), both.1.1)

-- what is done of a process holds all that its visits add
pub visited_yields : (P : Protocol) (process : Process) (point : ℕ) (v : Visit) → Yields (Visited P process point v) (λ all. HasVisit all P process point v)
visited_yields P Nil point v = λ left rest clauses all x part. tt
visited_yields P (Output channel message next) point v =
    let raw = raw_clause v (sent P v.phase (term_in P v.scope channel) (term_in P v.scope message)) in
    let R = Adds (norms raw) (Visited P next (point + 1) v) in
    let G = λ (all : List (Clause Term)). IsTaken all raw × HasVisit all P next (point + 1) v in
    counted_yields point (Unless (evaluates_large P v (Output channel message next) || is_large_raw raw) point R) G
    (unless_yields (evaluates_large P v (Output channel message next) || is_large_raw raw) point R G
    (adds_yields (norms raw) (Visited P next (point + 1) v) (λ all. HasVisit all P next (point + 1) v) (visited_yields P next (point + 1) v)))
visited_yields P (Input channel pattern next) point v =
    let below = λ (w : Visit). unless_yields (is_large_visit w) point (Visited P next (point + 1) w) (λ all. HasVisit all P next (point + 1) w) (visited_yields P next (point + 1) w) in
    let R = Received P v channel pattern (λ w. Unless (is_large_visit w) point (Visited P next (point + 1) w)) in
    let G = λ (all : List (Clause Term)). (at : Fresh) × IsFresh v pattern at × HasVisit all P next (point + 1) (after_input P v channel pattern at) in
    counted_yields point (Unless (evaluates_large P v (Input channel pattern next)) point R) G
    (unless_yields (evaluates_large P v (Input channel pattern next)) point R G
    (λ left rest clauses all x part. (x.0, x.1, below (after_input P v channel pattern x.0) left rest clauses all x.2 part)))
visited_yields P (Parallel left right) point v =
    let R = Visited P left (point + 1) v in
    let S = Visited P right (point_after (point + 1) left) v in
    let G = λ (all : List (Clause Term)). HasVisit all P left (point + 1) v in
    let H = λ (all : List (Clause Term)). HasVisit all P right (point_after (point + 1) left) v in
    counted_yields point (Then R S) (λ all. G all × H all)
    (then_yields R S G H (visited_yields P left (point + 1) v) (visited_yields P right (point_after (point + 1) left) v))
visited_yields P (Replication copied) point v =
    let below = λ (w : Visit). visited_yields P copied (point + 1) w in
    counted_yields point (Copied v (λ w. Visited P copied (point + 1) w)) (λ all. (n : ℕ) × AreBelow n (visit_terms v) × HasVisit all P copied (point + 1) (after_copy v n))
    (λ left rest clauses all x part. (x.0, x.1, below (after_copy v x.0) left rest clauses all x.2 part))
visited_yields P (New word next) point v =
    let w = after_new v point in
    let G = λ (all : List (Clause Term)). HasVisit all P next (point + 1) w in
    counted_yields point (Unless (is_large_visit w) point (Visited P next (point + 1) w)) G
    (unless_yields (is_large_visit w) point (Visited P next (point + 1) w) G (visited_yields P next (point + 1) w))
visited_yields P (Let pattern expression next otherwise) point v =
    let process = Let pattern expression next otherwise in
    let R = λ (w : Visit). Visited P next (point + 1) w in
    let w_else = otherwise_visit P v pattern expression in
    let T = Visited P otherwise (point_after (point + 1) next) w_else in
    let G = λ (all : List (Clause Term)) (w : Visit). HasVisit all P next (point + 1) w in
    let H = λ (all : List (Clause Term)). HasVisit all P otherwise (point_after (point + 1) next) w_else in
    let C = Chosen P v pattern expression point R T in
    let D = λ (all : List (Clause Term)). (outs : List (Option Visit)) × AllGoOn P v pattern expression outs × AllByRecursion (λ out. IfSome out (G all)) outs × H all in
    let each = each_yields R T G H (λ w. visited_yields P next (point + 1) w) (visited_yields P otherwise (point_after (point + 1) next) w_else) in
    counted_yields point (Unless (evaluates_large P v process) point C) D
    (unless_yields (evaluates_large P v process) point C D
    (λ left rest clauses all x part.
    let both = unless_yields (some_large x.0) point (EachThen R x.0 T) (λ a. AllByRecursion (λ out. IfSome out (G a)) x.0 × H a) (each x.0) left rest clauses all x.2 part in
    (x.0, x.1, both.0, both.1)))
visited_yields P (Event performed next) point v =
    let process = Event performed next in
    let raw = raw_clause v (Ev performed.event (event_terms P v performed)) in
    let w = after_event P v performed in
    let R = Adds (norms raw) (Visited P next (point + 1) w) in
    let G = λ (all : List (Clause Term)). IsTaken all raw × HasVisit all P next (point + 1) w in
    let large = evaluates_large P v process || (is_large_raw raw || is_large_visit w) in
    counted_yields point (Unless large point R) G
    (unless_yields large point R G
    (adds_yields (norms raw) (Visited P next (point + 1) w) (λ all. HasVisit all P next (point + 1) w) (visited_yields P next (point + 1) w)))
visited_yields P (Phase number next) point v =
    let w = after_phase v number in
    counted_yields point (Visited P next (point + 1) w) (λ all. HasVisit all P next (point + 1) w) (visited_yields P next (point + 1) w)
visited_yields P (Insert table arguments next) point v =
    let raw = raw_clause v (Tab table (written_terms P v arguments)) in
    let R = Adds (norms raw) (Visited P next (point + 1) v) in
    let G = λ (all : List (Clause Term)). IsTaken all raw × HasVisit all P next (point + 1) v in
    let large = evaluates_large P v (Insert table arguments next) || is_large_raw raw in
    counted_yields point (Unless large point R) G
    (unless_yields large point R G
    (adds_yields (norms raw) (Visited P next (point + 1) v) (λ all. HasVisit all P next (point + 1) v) (visited_yields P next (point + 1) v)))
visited_yields P (Get table patterns condition next otherwise) point v =
    let process = Get table patterns condition next otherwise in
    let R = λ (w : Visit). Visited P next (point + 1) w in
    let T = Visited P otherwise (point_after (point + 1) next) v in
    let G = λ (all : List (Clause Term)) (w : Visit). HasVisit all P next (point + 1) w in
    let H = λ (all : List (Clause Term)). HasVisit all P otherwise (point_after (point + 1) next) v in
    let C = Fetched P v table patterns condition point R T in
    let D = λ (all : List (Clause Term)). (large : Bool) × (went : Option Visit) × EntryGoesOn P v table patterns condition large went × IfSome went (G all) × H all in
    let each = each_yields R T G H (λ w. visited_yields P next (point + 1) w) (visited_yields P otherwise (point_after (point + 1) next) v) in
    counted_yields point (Unless (evaluates_large P v process) point C) D
    (unless_yields (evaluates_large P v process) point C D
    (λ left rest clauses all x part.
    let outs = x.1 ∷ [] in
    let both = unless_yields (x.0 || some_large outs) point (EachThen R outs T) (λ a. AllByRecursion (λ out. IfSome out (G a)) outs × H a) (each outs) left rest clauses all x.3 part in
    (x.0, x.1, x.2, both.0.0, both.1)))

-- raw clauses, of which the list has all norms
all_taken : (raws : List (Clause Term)) (all : List (Clause Term)) → ArePart (flat_map norms raws) all → AllByRecursion (IsTaken all) raws
all_taken [] all part = tt
all_taken (raw ∷ raws) all part = (
  all_part (norms raw) all (part_first (norms raw) (flat_map norms raws) all part),
  all_taken raws all (part_second (norms raw) (flat_map norms raws) all part),
)

pub translations_hold_all : (P : Protocol) (q : Query) (all : List (Clause Term)) → IsTranslation P q (Clauses all) → HoldsAll P q all
translations_hold_all P q all x = go x.0 x.1 x.2
  where
    go : (out : Outcome) → Visited P P.main 1 first_visit most_visits out → Clauses all ≡ whole P q out → HoldsAll P q all
    go (TooLarge point) visited e = cc
    go (Done clauses left) visited e =
        let same : all ≡ attacker_clauses P ++ (clauses ++ goal_clauses P q) = cc in
        let parts : ArePart (attacker_clauses P ++ (clauses ++ goal_clauses P q)) all = subst (λ cs. ArePart cs all) same (λ c h. h) in
        let behind = part_second (attacker_clauses P) (clauses ++ goal_clauses P q) all parts in
        record {
          attacker = all_taken (attacker_raw P) all (part_first (attacker_clauses P) (clauses ++ goal_clauses P q) all parts);
          process = visited_yields P P.main 1 first_visit most_visits left clauses all visited (part_first clauses (goal_clauses P q) all behind);
          goal = all_part (goal_clauses P q) all (part_second clauses (goal_clauses P q) all behind);
        }
