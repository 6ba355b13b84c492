-- The sources that visits gather stand beside the clauses that the visits add.
use Rattle.std.proofs.Common.{◌≡◌, ◌∙◌, ap, refl, sym, subst, ℕ, zero, suc, ◌+◌, ◌||◌, Bool, true, false, List, [], ◌∷◌, ◌++◌, map, length, Option, None, Some}
use Rattle.std.proofs.lemmas.List.{append_assoc, length-map}
use Rattle.spec_calculus.specs.Syntax.{Process, Nil, Output, Input, Parallel, Replication, New, Let, Event, Phase, Insert, Get, Pattern, Expression, Ruled, Query, Protocol}
use Rattle.spec_calculus.specs.Points.{point_after}
use Rattle.spec_calculus.specs.Choices.{choices, label_of}
use Rattle.spec_calculus.specs.Bounds.{most_visits}
use Rattle.spec_terms.specs.Term.{Term}
use Rattle.spec_clauses.specs.Fact.{Fact, Tab, Ev, Clause}
use Rattle.spec_clauses.specs.Norm.{norms}
use Rattle.spec_clauses.specs.Limits.{is_large_raw}
use Rattle.spec_translation.specs.Conversion.{term_in}
use Rattle.spec_translation.specs.Goal.{goal_raw}
use Rattle.spec_translation.specs.Visit.{Visit, first_visit, is_large_visit, evaluates_large, sent, raw_clause, after_input, after_copy, after_new, event_terms, after_event, after_phase, written_terms}
use Rattle.spec_translation.specs.Choice.{EachGoesOn, AllGoOn}
use Rattle.spec_translation.specs.Otherwise.{otherwise_visit}
use Rattle.spec_translation.specs.Course.{Outcome, Done, TooLarge, Course, Finished, Counted, Unless, After, Then, Adds}
use Rattle.spec_translation.specs.Visited.{some_large, EachThen, Copied, Received, Chosen, Fetched, Visited}
use Rattle.spec_translation.specs.Translation.{Clauses, LargeAt, attacker_clauses, IsTranslation}
use Rattle.spec_attack_runs.specs.Source.{Choice, Taken, Else, Idle, Reaches, Source, sources_of, clause_of}
use Rattle.spec_attack_runs.specs.Gathered.{attacker_sources, visit_sources, labelled, EachGathers, Gathers, AreSources}
use Rattle.spec_attack_runs.proofs.BesideClauses.{raw_clauses, joined, attacker_beside}
use Rattle.spec_attack_runs.proofs.OneList.{one_list}

-- what courses that end with clauses did on the way
abbrev clauses_in : Outcome → List (Clause Term)
clauses_in (Done cs left) = cs
clauses_in (TooLarge point) = []

abbrev left_in : Outcome → ℕ
left_in (Done cs left) = left
left_in (TooLarge point) = 0

counted_done : (point : ℕ) (R : Course) (left : ℕ) (cs : List (Clause Term)) (rest : ℕ) → Counted point R left (Done cs rest) → (n : ℕ) × R n (Done cs rest)
counted_done point R zero cs rest h = absurd (let wrong : Done cs rest ≡ TooLarge point = h in cc)
counted_done point R (suc left) cs rest h = (left, h)

unless_done : (b : Bool) (point : ℕ) (R : Course) (left : ℕ) (cs : List (Clause Term)) (rest : ℕ) → Unless b point R left (Done cs rest) → R left (Done cs rest)
unless_done true point R left cs rest h = absurd (let wrong : Done cs rest ≡ TooLarge point = h in cc)
unless_done false point R left cs rest h = h

after_done : (clauses : List (Clause Term)) (left : ℕ) (R : Course) (cs : List (Clause Term)) (rest : ℕ) → After (Done clauses left) R (Done cs rest) → (more : List (Clause Term)) × R left (Done more rest) × (cs ≡ clauses ++ more)
after_done clauses left R cs rest (Done more n, there, e) = (more, subst (λ (k : ℕ). R left (Done more k)) (sym (ap left_in e)) there, ap clauses_in e)
after_done clauses left R cs rest (TooLarge point, there, e) = absurd (let wrong : Done cs rest ≡ TooLarge point = e in cc)

then_done : (R S : Course) (left : ℕ) (cs : List (Clause Term)) (rest : ℕ) → Then R S left (Done cs rest)
    → (first : List (Clause Term)) × (n : ℕ) × (second : List (Clause Term)) × R left (Done first n) × S n (Done second rest) × (cs ≡ first ++ second)
then_done R S left cs rest (Done first n, there, behind) = let more = after_done first n S cs rest behind in (first, n, more.0, there, more.1, more.2)
then_done R S left cs rest (TooLarge point, there, behind) = absurd (let wrong : Done cs rest ≡ TooLarge point = behind in cc)

-- sources that are gathered, and stand beside the clauses
abbrev Stand : (List Source → Type 0) → List (Clause Term) → Type 0
Stand R cs = (sources : List Source) × R sources × (map clause_of sources ≡ map Some cs)

-- below each choice of a `let`
each_stands : (R : Visit → ℕ → Outcome → Type 0) (S : Choice → Visit → List Source → Type 0) → ((choice : Choice) (v : Visit) (left : ℕ) (cs : List (Clause Term)) (rest : ℕ) → R v left (Done cs rest) → Stand (S choice v) cs)
    → (choices : List Choice) (outs : List (Option Visit)) (last : Course) (left : ℕ) (cs : List (Clause Term)) (rest : ℕ) → length choices ≡ length outs → EachThen R outs last left (Done cs rest)
    → (first : List (Clause Term)) × (n : ℕ) × (second : List (Clause Term)) × Stand (EachGathers S choices outs) first × last n (Done second rest) × (cs ≡ first ++ second)
each_stands R S stands [] [] last left cs rest same h = ([], left, cs, ([], refl, refl), h, refl)
each_stands R S stands [] (o ∷ outs) last left cs rest same h = absurd (let wrong : 0 ≡ suc (length outs) = same in cc)
each_stands R S stands (choice ∷ choices) [] last left cs rest same h = absurd (let wrong : suc (length choices) ≡ 0 = same in cc)
each_stands R S stands (choice ∷ choices) (None ∷ outs) last left cs rest same h = each_stands R S stands choices outs last left cs rest (let less : suc (length choices) ≡ suc (length outs) = same in cc) h
each_stands R S stands (choice ∷ choices) (Some v ∷ outs) last left cs rest same h =
    let both = then_done (R v) (EachThen R outs last) left cs rest h in
    let here = stands choice v left both.0 both.1 both.3 in
    let others = each_stands R S stands choices outs last both.1 both.2 rest (let less : suc (length choices) ≡ suc (length outs) = same in cc) both.4 in (
      both.0 ++ others.0,
      others.1,
      others.2,
      (here.0 ++ others.3.0, (here.0, others.3.0, here.1, others.3.1, refl), joined here.0 others.3.0 both.0 others.0 here.2 others.3.2),
      others.4,
      both.5 ∙ (ap (λ ds. both.0 ++ ds) others.5 ∙ sym (append_assoc both.0 others.0 others.2)),
    )

go_on_length : (P : Protocol) (v : Visit) (pattern : Pattern) (rs : List Ruled) (outs : List (Option Visit)) → EachGoesOn P v pattern rs outs → length rs ≡ length outs
go_on_length P v pattern [] outs h = ap length (sym h)
go_on_length P v pattern (r ∷ rs) outs h = ap suc (go_on_length P v pattern rs h.1 h.3) ∙ ap length (sym h.4)

labelled_length : (P : Protocol) (v : Visit) (pattern : Pattern) (e : Expression) (outs : List (Option Visit)) → AllGoOn P v pattern e outs → length (labelled P e) ≡ length outs
labelled_length P v pattern e outs h =
    length-map (choices P e) (λ c. Taken (label_of c.rules)) ∙ (sym (length-map (choices P e) (λ c. c.ruled)) ∙ go_on_length P v pattern (map (λ c. c.ruled) (choices P e)) outs h)

-- a raw clause and what is gathered below it
with_raw : (point : ℕ) (taken : List Choice) (v : Visit) (f : Fact Term) (R : List Source → Type 0) (cs more : List (Clause Term)) → Stand R more → cs ≡ norms (raw_clause v f) ++ more
    → Stand (λ sources. (rest : List Source) × R rest × (sources ≡ visit_sources point taken v f ++ rest)) cs
with_raw point taken v f R cs more below e =
    let here = visit_sources point taken v f in
    let way = Reaches (record { point = point; choices = taken; messages = v.messages; sessions = v.sessions; phase = v.phase }) in
    (here ++ below.0, (below.0, below.1, refl), joined here below.0 (norms (raw_clause v f)) more (raw_clauses way (raw_clause v f)) below.2 ∙ ap (map Some) (sym e))

-- What a process's visits add stands beside sources that they gather.
visits_stand : (P : Protocol) (process : Process) (point : ℕ) (taken : List Choice) (v : Visit) (left : ℕ) (cs : List (Clause Term)) (rest : ℕ) → Visited P process point v left (Done cs rest) → Stand (Gathers P process point taken v) cs
visits_stand P Nil point taken v left cs rest h =
    let (n, there) = counted_done point Finished left cs rest h in
    let none : cs ≡ [] = ap clauses_in there in
    ([], refl, ap (map Some) (sym none))
visits_stand P (Output channel message next) point taken v left cs rest h =
    let f = sent P v.phase (term_in P v.scope channel) (term_in P v.scope message) in
    let raw = raw_clause v f in
    let large = evaluates_large P v (Output channel message next) || is_large_raw raw in
    let R : Course = Adds (norms raw) (Visited P next (point + 1) v) in
    let (n, there) = counted_done point (Unless large point R) left cs rest h in
    let added = after_done (norms raw) n (Visited P next (point + 1) v) cs rest (unless_done large point R n cs rest there) in
    with_raw point taken v f (Gathers P next (point + 1) taken v) cs added.0 (visits_stand P next (point + 1) taken v n added.0 rest added.1) added.2
visits_stand P (Input channel pattern next) point taken v left cs rest h =
    let R : Visit → ℕ → Outcome → Type 0 = λ w. Unless (is_large_visit w) point (Visited P next (point + 1) w) in
    let large = evaluates_large P v (Input channel pattern next) in
    let (n, there) = counted_done point (Unless large point (Received P v channel pattern R)) left cs rest h in
    let (at, fresh, below) = unless_done large point (Received P v channel pattern R) n cs rest there in
    let w = after_input P v channel pattern at in
    let found = visits_stand P next (point + 1) taken w n cs rest (unless_done (is_large_visit w) point (Visited P next (point + 1) w) n cs rest below) in
    (found.0, (at, fresh, found.1), found.2)
visits_stand P (Parallel left right) point taken v count cs rest h =
    let R : Course = Visited P left (point + 1) v in
    let S : Course = Visited P right (point_after (point + 1) left) v in
    let (n, there) = counted_done point (Then R S) count cs rest h in
    let both = then_done R S n cs rest there in
    let first = visits_stand P left (point + 1) taken v n both.0 both.1 both.3 in
    let second = visits_stand P right (point_after (point + 1) left) taken v both.1 both.2 rest both.4 in
    (first.0 ++ second.0, (first.0, second.0, first.1, second.1, refl), joined first.0 second.0 both.0 both.2 first.2 second.2 ∙ ap (map Some) (sym both.5))
visits_stand P (Replication copied) point taken v left cs rest h =
    let R : Visit → ℕ → Outcome → Type 0 = λ w. Visited P copied (point + 1) w in
    let (n, there) = counted_done point (Copied v R) left cs rest h in
    let found = visits_stand P copied (point + 1) taken (after_copy v there.0) n cs rest there.2 in
    (found.0, (there.0, there.1, found.1), found.2)
visits_stand P (New word next) point taken v left cs rest h =
    let w = after_new v point in
    let R : Course = Visited P next (point + 1) w in
    let (n, there) = counted_done point (Unless (is_large_visit w) point R) left cs rest h in
    visits_stand P next (point + 1) taken w n cs rest (unless_done (is_large_visit w) point R n cs rest there)
visits_stand P (Let pattern expression next otherwise) point taken v left cs rest h =
    let process = Let pattern expression next otherwise in
    let R : Visit → ℕ → Outcome → Type 0 = λ w. Visited P next (point + 1) w in
    let w_else = otherwise_visit P v pattern expression in
    let last : Course = Visited P otherwise (point_after (point + 1) next) w_else in
    let (n, there) = counted_done point (Unless (evaluates_large P v process) point (Chosen P v pattern expression point R last)) left cs rest h in
    let (outs, all, below) = unless_done (evaluates_large P v process) point (Chosen P v pattern expression point R last) n cs rest there in
    let each = unless_done (some_large outs) point (EachThen R outs last) n cs rest below in
    let S : Choice → Visit → List Source → Type 0 = λ choice w. Gathers P next (point + 1) (taken ++ choice ∷ []) w in
    let found = each_stands R S (λ choice w m ds k. visits_stand P next (point + 1) (taken ++ choice ∷ []) w m ds k) (labelled P expression) outs last n cs rest (labelled_length P v pattern expression outs all) each in
    let second = visits_stand P otherwise (point_after (point + 1) next) (taken ++ Else ∷ []) w_else found.1 found.2 rest found.4 in (
      found.3.0 ++ second.0,
      (outs, all, found.3.0, second.0, found.3.1, second.1, refl),
      joined found.3.0 second.0 found.0 found.2 found.3.2 second.2 ∙ ap (map Some) (sym found.5),
    )
visits_stand P (Event performed next) point taken v left cs rest h =
    let f = Ev performed.event (event_terms P v performed) in
    let raw = raw_clause v f in
    let w = after_event P v performed in
    let large = evaluates_large P v (Event performed next) || (is_large_raw raw || is_large_visit w) in
    let R : Course = Adds (norms raw) (Visited P next (point + 1) w) in
    let (n, there) = counted_done point (Unless large point R) left cs rest h in
    let added = after_done (norms raw) n (Visited P next (point + 1) w) cs rest (unless_done large point R n cs rest there) in
    with_raw point taken v f (Gathers P next (point + 1) taken w) cs added.0 (visits_stand P next (point + 1) taken w n added.0 rest added.1) added.2
visits_stand P (Phase number next) point taken v left cs rest h =
    let w = after_phase v number in
    let (n, there) = counted_done point (Visited P next (point + 1) w) left cs rest h in
    visits_stand P next (point + 1) taken w n cs rest there
visits_stand P (Insert table arguments next) point taken v left cs rest h =
    let f = Tab table (written_terms P v arguments) in
    let raw = raw_clause v f in
    let large = evaluates_large P v (Insert table arguments next) || is_large_raw raw in
    let R : Course = Adds (norms raw) (Visited P next (point + 1) v) in
    let (n, there) = counted_done point (Unless large point R) left cs rest h in
    let added = after_done (norms raw) n (Visited P next (point + 1) v) cs rest (unless_done large point R n cs rest there) in
    with_raw point taken v f (Gathers P next (point + 1) taken v) cs added.0 (visits_stand P next (point + 1) taken v n added.0 rest added.1) added.2
visits_stand P (Get table patterns condition next otherwise) point taken v left cs rest h =
    let process = Get table patterns condition next otherwise in
    let R : Visit → ℕ → Outcome → Type 0 = λ w. Visited P next (point + 1) w in
    let last : Course = Visited P otherwise (point_after (point + 1) next) v in
    let (n, there) = counted_done point (Unless (evaluates_large P v process) point (Fetched P v table patterns condition point R last)) left cs rest h in
    let (large, went, goes, below) = unless_done (evaluates_large P v process) point (Fetched P v table patterns condition point R last) n cs rest there in
    let each = unless_done (large || some_large (went ∷ [])) point (EachThen R (went ∷ []) last) n cs rest below in
    let S : Choice → Visit → List Source → Type 0 = λ choice w. Gathers P next (point + 1) (taken ++ choice ∷ []) w in
    let found = each_stands R S (λ choice w m ds k. visits_stand P next (point + 1) (taken ++ choice ∷ []) w m ds k) (Taken [] ∷ []) (went ∷ []) last n cs rest refl each in
    let second = visits_stand P otherwise (point_after (point + 1) next) (taken ++ Else ∷ []) v found.1 found.2 rest found.4 in (
      found.3.0 ++ second.0,
      (large, went, goes, found.3.0, second.0, found.3.1, second.1, refl),
      joined found.3.0 second.0 found.0 found.2 found.3.2 second.2 ∙ ap (map Some) (sym found.5),
    )

-- A translation that is not too large has sources beside its clauses,
translation_stands : (P : Protocol) (q : Query) (all : List (Clause Term)) → IsTranslation P q (Clauses all) → Stand (AreSources P q) all
translation_stands P q all (Done cs left, visited, e) =
    let found = visits_stand P P.main 1 [] first_visit most_visits cs left visited in
    let goal = sources_of Idle (goal_raw P q) in
    let is : all ≡ attacker_clauses P ++ (cs ++ norms (goal_raw P q)) = let same = e in cc in (
      attacker_sources P ++ (found.0 ++ goal),
      (found.0, found.1, refl),
      joined (attacker_sources P) (found.0 ++ goal) (attacker_clauses P) (cs ++ norms (goal_raw P q)) (attacker_beside P)
          (joined found.0 goal cs (norms (goal_raw P q)) found.2 (raw_clauses Idle (goal_raw P q))) ∙ ap (map Some) (sym is),
    )
translation_stands P q all (TooLarge point, visited, e) = absurd (let wrong : Clauses all ≡ LargeAt point = e in cc)

pub sources_there : (P : Protocol) (q : Query) (all : List (Clause Term)) → IsTranslation P q (Clauses all) → (sources : List Source) × AreSources P q sources
sources_there P q all h = let found = translation_stands P q all h in (found.0, found.1)

-- and its sources are these.
pub sources_beside : (P : Protocol) (q : Query) (all : List (Clause Term)) (sources : List Source) → IsTranslation P q (Clauses all) → AreSources P q sources → map clause_of sources ≡ map Some all
sources_beside P q all sources h are =
    let found = translation_stands P q all h in
    ap (map clause_of) (one_list P q sources found.0 are found.1) ∙ found.2
