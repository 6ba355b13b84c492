-- The sources of a protocol and a query are one list, whatever new variables and most general unifiers are taken.
use Rattle.std.proofs.Common.{◌≡◌, ◌∙◌, ap, refl, sym, subst, ℕ, ◌+◌, nat_eq, List, [], ◌∷◌, ◌++◌, map, cond, Option, None, Some, is_some}
use Rattle.std.specs.Prelude.{flat_map, filter_map}
use Rattle.std.specs.List.{AllByRecursion, cons_option, enumerate_from}
use Rattle.std.proofs.lemmas.List.{map-append}
use Rattle.spec_trees.specs.Tree.{Leaf, bind, after}
use Rattle.spec_calculus.specs.Syntax.{Process, Nil, Output, Input, Parallel, Replication, New, Let, Event, Phase, Insert, Get, Query, Protocol}
use Rattle.spec_calculus.specs.Points.{point_after}
use Rattle.spec_terms.specs.Term.{Term, Subst}
use Rattle.spec_clauses.specs.Diff.{Diff, diff_under, diff_variables}
use Rattle.spec_clauses.specs.Fact.{Fact, Tab, Ev, Bad, Clause, terms_of, fact_under, clause_under}
use Rattle.spec_clauses.specs.Flat.{flat, flat_parts}
use Rattle.spec_clauses.specs.Variables.{leaves, fact_variables, clause_variables, constrained_variables}
use Rattle.spec_clauses.specs.Norm.{numbering, distinct, place_of}
use Rattle.spec_clauses.specs.Renaming.{renaming, AreVariants}
use Rattle.spec_clauses.proofs.Lists.{all_append, all_weaker, all-flat_map, all-from_flat_map}
use Rattle.spec_clauses.proofs.Facts.{clause_under-clause_under, clause_under-agree, fact_under-agree}
use Rattle.spec_clauses.proofs.Flat.{fact_variables-flat, flat_parts-renamed}
use Rattle.spec_clauses.proofs.Renaming.{IsLedBack, fact_variables-renamed, clause_variables-renamed, all_distinct, nat_eq-renamed, place_of-renamed, variables_distinct-renamed}
use Rattle.spec_clauses.proofs.ClauseRenaming.{IsDiffLedBack, IsClauseLedBack, variables_back, constrained_back}
use Rattle.spec_clauses.proofs.DiffNumbering.{own-renamed}
use Rattle.spec_clauses.proofs.NormRenaming.{norm-renamed}
use Rattle.spec_clauses.proofs.Variants.{variants_are_renamed}
use Rattle.spec_translation.specs.Conversion.{term_in}
use Rattle.spec_translation.specs.Visit.{Visit, first_visit, visit_under, sent, raw_clause, after_input, after_copy, after_new, event_terms, after_event, after_phase, written_terms}
use Rattle.spec_translation.specs.Otherwise.{otherwise_visit}
use Rattle.spec_translation.specs.Goal.{goal_raw}
use Rattle.spec_translation.proofs.Conversions.{terms_in-under}
use Rattle.spec_translation.proofs.Visits.{terms_under-terms_under, AreAlike, alike_led_back, led_there, channel_public, sent_there}
use Rattle.spec_translation.proofs.Visits as visits
use Rattle.spec_translation.proofs.Fresh.{mixed, extended, after_input-under, after_copy-under, after_new-under, after_event-under}
use Rattle.spec_translation.proofs.Otherwise.{otherwise_visit-under}
use Rattle.spec_translation.proofs.Choices.{AllGoAlike, all_go_alike, entry_goes_alike}
use Rattle.spec_attack_runs.specs.Source.{Choice, Taken, Else, Way, Idle, Reaches, way_under, Source, source_under, source_variables, numbered_source, part_source, sources_of}
use Rattle.spec_attack_runs.specs.Gathered.{attacker_sources, visit_sources, labelled, EachGathers, Gathers, AreSources}

-- A source of a way under one substitution after another, and under two that agree on its variables.
abbrev way_source : Clause Term → ℕ → Way → Source
way_source raw part way = record { raw = raw; part = part; action = Reaches way }

way_source_twice : (s t : Subst) (raw : Clause Term) (part : ℕ) (way : Way) → source_under s (source_under t (way_source raw part way)) ≡ source_under (after s t) (way_source raw part way)
way_source_twice s t raw part way =
    let clauses = clause_under-clause_under s t raw in
    let messages = terms_under-terms_under s t way.messages in
    let sessions = terms_under-terms_under s t way.sessions in
    λ i. record { raw = clauses i; part = part; action = Reaches (record way { messages = messages i; sessions = sessions i }) }

pub terms_agree : (s t : Subst) (ts : List Term) → AllByRecursion (λ x. s x ≡ t x) (flat_map leaves ts) → map (bind s) ts ≡ map (bind t) ts
terms_agree s t ts a = ap terms_of (fact_under-agree s t (Bad ts) a)

-- the constraints' variables are the renamed ones
constrained-renamed : (r : ℕ → ℕ) (ds : List Diff) → flat_map diff_variables (map (diff_under (renaming r)) ds) ≡ map r (flat_map diff_variables ds)
constrained-renamed r [] = refl
constrained-renamed r (d ∷ ds) =
    let first = own-renamed r d in
    let others = constrained-renamed r ds in
    (λ i. first i ++ others i) ∙ sym (map-append r (diff_variables d) (flat_map diff_variables ds))

-- and so are those of a source of a way
way_variables-renamed : (r : ℕ → ℕ) (raw : Clause Term) (part : ℕ) (way : Way) → source_variables (source_under (renaming r) (way_source raw part way)) ≡ map r (source_variables (way_source raw part way))
way_variables-renamed r raw part way =
    let clauses = clause_variables-renamed r raw in
    let constraints = constrained-renamed r raw.diffs in
    let terms = way.messages ++ way.sessions in
    let joined = sym (map-append (bind (renaming r)) way.messages way.sessions) in
    let renamed : flat_map leaves (map (bind (renaming r)) way.messages ++ map (bind (renaming r)) way.sessions) ≡ map r (flat_map leaves terms) =
    ap (flat_map leaves) joined ∙ fact_variables-renamed r (Bad terms) in
    let others = sym (map-append r (constrained_variables raw) (flat_map leaves terms)) in
    (λ i. clauses i ++ (constraints i ++ renamed i))
    ∙ (ap (λ xs. map r (clause_variables raw) ++ xs) others ∙ sym (map-append r (clause_variables raw) (constrained_variables raw ++ flat_map leaves terms)))

-- q leads back from r.
module _ (q r : ℕ → ℕ) where
  abbrev pub Back : ℕ → Type 0
  Back x = q (r x) ≡ x

  -- the flat parts of a clause that is led back
  flat-back : (h : Fact Term) → IsLedBack q r h → AllByRecursion (IsLedBack q r) (flat h)
  flat-back h a = all-from_flat_map Back fact_variables (flat h) (rw (fact_variables-flat h) a)

  flats-back : (hs : List (Fact Term)) → AllByRecursion (IsLedBack q r) hs → AllByRecursion (IsLedBack q r) (flat_map flat hs)
  flats-back hs a = all-flat_map (IsLedBack q r) flat hs (all_weaker (IsLedBack q r) (λ h. AllByRecursion (IsLedBack q r) (flat h)) flat-back hs a)

  parts_with-back : (hs : List (Fact Term)) (ds : List Diff) (fs : List (Fact Term)) → AllByRecursion (IsLedBack q r) hs → AllByRecursion (IsDiffLedBack q r) ds → AllByRecursion (IsLedBack q r) fs
      → AllByRecursion (IsClauseLedBack q r) (map (λ f. record { hypotheses = hs; diffs = ds; conclusion = f }) fs)
  parts_with-back hs ds [] a b e = tt
  parts_with-back hs ds (f ∷ fs) a b e = (record { facts = (e.0, a); diffs = b }, parts_with-back hs ds fs a b e.1)

  pub flat_parts-back : (c : Clause Term) → IsClauseLedBack q r c → AllByRecursion (IsClauseLedBack q r) (flat_parts c)
  flat_parts-back c a = parts_with-back (flat_map flat c.hypotheses) c.diffs (flat c.conclusion) (flats-back c.hypotheses a.facts.1) a.diffs (flat-back c.conclusion a.facts.0)

  -- a raw clause and a way that are led back
  module _ (raw : Clause Term) (way : Way) (a : IsClauseLedBack q r raw) (messages : AllByRecursion Back (flat_map leaves way.messages)) (sessions : AllByRecursion Back (flat_map leaves way.sessions)) where
    terms_back : AllByRecursion Back (flat_map leaves (way.messages ++ way.sessions))
    terms_back = all-flat_map Back leaves (way.messages ++ way.sessions)
        (all_append (λ t. AllByRecursion Back (leaves t)) way.messages way.sessions (all-from_flat_map Back leaves way.messages messages) (all-from_flat_map Back leaves way.sessions sessions))

    -- numbered, a source is the renamed one
    numbered_same : (part : ℕ) → numbered_source (source_under (renaming r) (way_source raw part way)) ≡ numbered_source (way_source raw part way)
    numbered_same part =
        let source = way_source raw part way in
        let xs = source_variables source in
        let constrained = constrained_back q r raw a in
        let back : AllByRecursion Back xs = all_append Back (clause_variables raw) (constrained_variables raw ++ flat_map leaves (way.messages ++ way.sessions)) (variables_back q r raw a)
        (all_append Back (constrained_variables raw) (flat_map leaves (way.messages ++ way.sessions)) constrained terms_back) in
        let order = variables_distinct-renamed q r xs back in
        let kept = all_distinct nat_eq nat_eq r Back (λ x y b d. nat_eq-renamed q r x y b d) xs back in
        let before = after (numbering (map r xs)) (renaming r) in
        let place : (x : ℕ) → Back x → before x ≡ numbering xs x =
        (λ x b. ap (λ ys. Leaf (place_of (r x) ys)) order ∙ ap Leaf (place_of-renamed q r x (distinct nat_eq xs) b kept)) in
        let places = all_weaker Back (λ x. before x ≡ numbering xs x) place in
        let clauses = clause_under-agree before (numbering xs) raw (places (clause_variables raw) (variables_back q r raw a)) (places (constrained_variables raw) constrained) in
        let received = terms_agree before (numbering xs) way.messages (places (flat_map leaves way.messages) messages) in
        let copied = terms_agree before (numbering xs) way.sessions (places (flat_map leaves way.sessions) sessions) in
        ap (λ ys. source_under (numbering ys) (source_under (renaming r) source)) (way_variables-renamed r raw part way)
        ∙ (way_source_twice (numbering (map r xs)) (renaming r) raw part way
        ∙ (λ i. record { raw = clauses i; part = part; action = Reaches (record way { messages = received i; sessions = copied i }) }))

    each_part : (n : ℕ) (cs : List (Clause Term)) → AllByRecursion (IsClauseLedBack q r) cs
        → filter_map (part_source (Reaches (way_under (renaming r) way)) (clause_under (renaming r) raw)) (enumerate_from n (map (clause_under (renaming r)) cs)) ≡ filter_map (part_source (Reaches way) raw) (enumerate_from n cs)
    each_part n [] b = refl
    each_part n (c ∷ cs) b =
        let same = norm-renamed q r c b.0 in
        let one = numbered_same n in
        let others = each_part (n + 1) cs b.1 in
        λ i. cons_option (cond (is_some (same i)) (Some (one i)) None) (others i)

    sources_same : sources_of (Reaches (way_under (renaming r) way)) (clause_under (renaming r) raw) ≡ sources_of (Reaches way) raw
    sources_same =
        ap (λ cs. filter_map (part_source (Reaches (way_under (renaming r) way)) (clause_under (renaming r) raw)) (enumerate_from 1 cs)) (flat_parts-renamed r raw)
        ∙ each_part 1 (flat_parts raw) (flat_parts-back raw a)

-- A visit as a clause: its raw clause, with its messages and its sessions as hypotheses.
abbrev bundle : Visit → Fact Term → Clause Term
bundle v f = record { hypotheses = Bad v.messages ∷ Bad v.sessions ∷ v.hypotheses; diffs = v.diffs; conclusion = f }

abbrev pub first_terms : List (Fact Term) → List Term
first_terms [] = []
first_terms (f ∷ fs) = terms_of f

abbrev pub behind_first : List (Fact Term) → List (Fact Term)
behind_first [] = []
behind_first (f ∷ fs) = fs

-- what a visit that is led back and its instance add
visit_same : (point : ℕ) (taken : List Choice) (s t : Subst) (v : Visit) (f g : Fact Term) → visits.IsLedBack s t v → fact_under s f ≡ g → fact_under t g ≡ f
    → visit_sources point taken v f ≡ visit_sources point taken (visit_under s v) g
visit_same point taken s t v f g e there again =
    let w = visit_under s v in
    let variants : AreVariants (bundle v f) (bundle w g) = record {
      by = s;
      back = t;
      there = λ i. record { hypotheses = Bad w.messages ∷ Bad w.sessions ∷ w.hypotheses; diffs = w.diffs; conclusion = there i };
      again = λ i. record { hypotheses = Bad (e i).messages ∷ Bad (e i).sessions ∷ (e i).hypotheses; diffs = (e i).diffs; conclusion = again i };
    } in
    let n = variants_are_renamed (bundle v f) (bundle w g) variants in
    let facts = n.is_back.facts in
    let way : Way = record { point = point; choices = taken; messages = v.messages; sessions = v.sessions; phase = v.phase } in
    let back : IsClauseLedBack n.back n.names (raw_clause v f) = record { facts = (facts.0, facts.1.1.1); diffs = n.is_back.diffs } in
    let messages = ap (λ (c : Clause Term). first_terms c.hypotheses) n.is_renamed in
    let sessions = ap (λ (c : Clause Term). first_terms (behind_first c.hypotheses)) n.is_renamed in
    let hypotheses = ap (λ (c : Clause Term). behind_first (behind_first c.hypotheses)) n.is_renamed in
    let diffs = ap (λ (c : Clause Term). c.diffs) n.is_renamed in
    let conclusion = ap (λ (c : Clause Term). c.conclusion) n.is_renamed in
    let renamed : visit_sources point taken w g ≡ sources_of (Reaches (way_under (renaming n.names) way)) (clause_under (renaming n.names) (raw_clause v f)) =
    (λ i. sources_of (Reaches (record way { messages = messages i; sessions = sessions i })) (record { hypotheses = hypotheses i; diffs = diffs i; conclusion = conclusion i })) in
    sym (renamed ∙ sources_same n.back n.names (raw_clause v f) way back facts.1.0 facts.1.1.0)

-- What visits gather is the same at an alike visit, if it is at an instance that is led back.
abbrev SameAt : (Visit → List Source → Type 0) → Visit → Visit → Type 0
SameAt R v w = (a b : List Source) → R v a → R w b → a ≡ b

at_alike : (R : Visit → List Source → Type 0) → ((s t : Subst) (v : Visit) → visits.IsLedBack s t v → SameAt R v (visit_under s v)) → (v w : Visit) → AreAlike v w → SameAt R v w
at_alike R same v w k = subst (SameAt R v) k.there (same k.by k.back v (alike_led_back v w k))

each_same : (R : Choice → Visit → List Source → Type 0) → ((choice : Choice) (v w : Visit) → AreAlike v w → SameAt (R choice) v w) → (choices : List Choice) (os ps : List (Option Visit)) → AllGoAlike os ps
    → (a b : List Source) → EachGathers R choices os a → EachGathers R choices ps b → a ≡ b
each_same R same [] os ps alike a b x y = x ∙ sym y
each_same R same (choice ∷ choices) [] [] alike a b x y = x ∙ sym y
each_same R same (choice ∷ choices) [] (p ∷ ps) alike a b x y = absurd alike
each_same R same (choice ∷ choices) (o ∷ os) [] alike a b x y = absurd alike
each_same R same (choice ∷ choices) (None ∷ os) (None ∷ ps) alike a b x y = each_same R same choices os ps alike.1 a b x y
each_same R same (choice ∷ choices) (None ∷ os) (Some w ∷ ps) alike a b x y = absurd alike.0
each_same R same (choice ∷ choices) (Some v ∷ os) (None ∷ ps) alike a b x y = absurd alike.0
each_same R same (choice ∷ choices) (Some v ∷ os) (Some w ∷ ps) alike a b x y =
    let first = same choice v w alike.0 x.0 y.0 x.2 y.2 in
    let others = each_same R same choices os ps alike.1 x.1 y.1 x.3 y.3 in
    x.4 ∙ ((λ i. first i ++ others i) ∙ sym y.4)

-- what a raw clause and the visits below it add
with_same : {a b : List Source} (first second rest others : List Source) → a ≡ first ++ rest → b ≡ second ++ others → first ≡ second → rest ≡ others → a ≡ b
with_same first second rest others x y same below = x ∙ ((λ i. same i ++ below i) ∙ sym y)

gathers_same : (P : Protocol) (process : Process) (point : ℕ) (taken : List Choice) (s t : Subst) (v : Visit) → visits.IsLedBack s t v → SameAt (Gathers P process point taken) v (visit_under s v)
gathers_same P Nil point taken s t v e a b x y = x ∙ sym y
gathers_same P (Output channel message next) point taken s t v e a b x y =
    let w = visit_under s v in
    let here = sent P v.phase (term_in P v.scope channel) (term_in P v.scope message) in
    let there = sent P w.phase (term_in P w.scope channel) (term_in P w.scope message) in
    let home = sent_there P t s w (led_there s t v e) channel message ∙ (λ i. sent P (e i).phase (term_in P (e i).scope channel) (term_in P (e i).scope message)) in
    with_same (visit_sources point taken v here) (visit_sources point taken w there) x.0 y.0 x.2 y.2
    (visit_same point taken s t v here there e (sent_there P s t v e channel message) home)
    (gathers_same P next (point + 1) taken s t v e x.0 y.0 x.1 y.1)
gathers_same P (Input channel pattern next) point taken s t v e a b x y =
    let w = visit_under s v in
    let public = channel_public P s t v e channel in
    let home = channel_public P t s w (led_there s t v e) channel in
    let alike : AreAlike (after_input P v channel pattern x.0) (after_input P w channel pattern y.0) = record {
      by = extended s x.0 y.0;
      back = extended t y.0 x.0;
      there = after_input-under P s v channel pattern x.0 y.0 public x.1;
      again = after_input-under P t w channel pattern y.0 x.0 home y.1 ∙ (λ i. after_input P (e i) channel pattern x.0);
    } in
    at_alike (Gathers P next (point + 1) taken) (gathers_same P next (point + 1) taken) (after_input P v channel pattern x.0) (after_input P w channel pattern y.0) alike a b x.2 y.2
gathers_same P (Parallel left right) point taken s t v e a b x y =
    with_same x.0 y.0 x.1 y.1 x.4 y.4 (gathers_same P left (point + 1) taken s t v e x.0 y.0 x.2 y.2)
    (gathers_same P right (point_after (point + 1) left) taken s t v e x.1 y.1 x.3 y.3)
gathers_same P (Replication copied) point taken s t v e a b x y =
    let w = visit_under s v in
    let alike : AreAlike (after_copy v x.0) (after_copy w y.0) = record {
      by = mixed x.0 s (λ d. Leaf y.0);
      back = mixed y.0 t (λ d. Leaf x.0);
      there = after_copy-under s v x.0 y.0 x.1;
      again = after_copy-under t w y.0 x.0 y.1 ∙ (λ i. after_copy (e i) x.0);
    } in
    at_alike (Gathers P copied (point + 1) taken) (gathers_same P copied (point + 1) taken) (after_copy v x.0) (after_copy w y.0) alike a b x.2 y.2
gathers_same P (New word next) point taken s t v e a b x y =
    let w = visit_under s v in
    let alike : AreAlike (after_new v point) (after_new w point) = record {
      by = s;
      back = t;
      there = after_new-under s v point;
      again = after_new-under t w point ∙ (λ i. after_new (e i) point);
    } in
    at_alike (Gathers P next (point + 1) taken) (gathers_same P next (point + 1) taken) (after_new v point) (after_new w point) alike a b x y
gathers_same P (Let pattern expression next otherwise) point taken s t v e a b x y =
    let w = visit_under s v in
    let R : Choice → Visit → List Source → Type 0 = λ choice u. Gathers P next (point + 1) (taken ++ choice ∷ []) u in
    let alike : AreAlike (otherwise_visit P v pattern expression) (otherwise_visit P w pattern expression) = record {
      by = s;
      back = t;
      there = otherwise_visit-under P s v pattern expression;
      again = otherwise_visit-under P t w pattern expression ∙ (λ i. otherwise_visit P (e i) pattern expression);
    } in
    let first = each_same R (λ choice. at_alike (R choice) (gathers_same P next (point + 1) (taken ++ choice ∷ []))) (labelled P expression) x.0 y.0
    (all_go_alike P s t v e pattern expression x.0 y.0 x.1 y.1) x.2 y.2 x.4 y.4 in
    let second = at_alike (Gathers P otherwise (point_after (point + 1) next) (taken ++ Else ∷ [])) (gathers_same P otherwise (point_after (point + 1) next) (taken ++ Else ∷ []))
    (otherwise_visit P v pattern expression) (otherwise_visit P w pattern expression) alike x.3 y.3 x.5 y.5 in
    with_same x.2 y.2 x.3 y.3 x.6 y.6 first second
gathers_same P (Event performed next) point taken s t v e a b x y =
    let w = visit_under s v in
    let here = Ev performed.event (event_terms P v performed) in
    let there = Ev performed.event (event_terms P w performed) in
    let goes : fact_under s here ≡ there = ap (Ev performed.event) (sym (terms_in-under P s v.scope performed.arguments)) in
    let comes : fact_under t there ≡ here = ap (Ev performed.event) (sym (terms_in-under P t w.scope performed.arguments)) ∙ (λ i. Ev performed.event (event_terms P (e i) performed)) in
    let alike : AreAlike (after_event P v performed) (after_event P w performed) = record {
      by = s;
      back = t;
      there = after_event-under P s v performed;
      again = after_event-under P t w performed ∙ (λ i. after_event P (e i) performed);
    } in
    with_same (visit_sources point taken v here) (visit_sources point taken w there) x.0 y.0 x.2 y.2 (visit_same point taken s t v here there e goes comes)
    (at_alike (Gathers P next (point + 1) taken) (gathers_same P next (point + 1) taken) (after_event P v performed) (after_event P w performed) alike x.0 y.0 x.1 y.1)
gathers_same P (Phase number next) point taken s t v e a b x y =
    let w = visit_under s v in
    let alike : AreAlike (after_phase v number) (after_phase w number) = record { by = s; back = t; there = refl; again = λ i. after_phase (e i) number } in
    at_alike (Gathers P next (point + 1) taken) (gathers_same P next (point + 1) taken) (after_phase v number) (after_phase w number) alike a b x y
gathers_same P (Insert table arguments next) point taken s t v e a b x y =
    let w = visit_under s v in
    let here = Tab table (written_terms P v arguments) in
    let there = Tab table (written_terms P w arguments) in
    let goes : fact_under s here ≡ there = ap (Tab table) (sym (terms_in-under P s v.scope arguments)) in
    let comes : fact_under t there ≡ here = ap (Tab table) (sym (terms_in-under P t w.scope arguments)) ∙ (λ i. Tab table (written_terms P (e i) arguments)) in
    with_same (visit_sources point taken v here) (visit_sources point taken w there) x.0 y.0 x.2 y.2 (visit_same point taken s t v here there e goes comes)
    (gathers_same P next (point + 1) taken s t v e x.0 y.0 x.1 y.1)
gathers_same P (Get table patterns condition next otherwise) point taken s t v e a b x y =
    let R : Choice → Visit → List Source → Type 0 = λ choice u. Gathers P next (point + 1) (taken ++ choice ∷ []) u in
    let alike : AllGoAlike (x.1 ∷ []) (y.1 ∷ []) = (entry_goes_alike P s t v e table patterns condition x.0 y.0 x.1 y.1 x.2 y.2, tt) in
    let first = each_same R (λ choice. at_alike (R choice) (gathers_same P next (point + 1) (taken ++ choice ∷ []))) (Taken [] ∷ []) (x.1 ∷ []) (y.1 ∷ []) alike x.3 y.3 x.5 y.5 in
    let second = gathers_same P otherwise (point_after (point + 1) next) (taken ++ Else ∷ []) s t v e x.4 y.4 x.6 y.6 in
    with_same x.3 y.3 x.4 y.4 x.7 y.7 first second

-- The sources are one list.
pub one_list : (P : Protocol) (q : Query) (a b : List Source) → AreSources P q a → AreSources P q b → a ≡ b
one_list P q a b x y =
    let visited = gathers_same P P.main 1 [] Leaf Leaf first_visit refl x.0 y.0 x.1 y.1 in
    x.2 ∙ (ap (λ vs. attacker_sources P ++ (vs ++ sources_of Idle (goal_raw P q))) visited ∙ sym y.2)
