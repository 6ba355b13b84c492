-- Where the else branch of each `let` does nothing, no clause of the translation has constraints: else branches alone add some.
use Rattle.std.proofs.Common.{◌≡◌, ◌∙◌, ℕ, zero, suc, ◌+◌, ◌||◌, List, [], ◌∷◌, ◌++◌, map, refl, ap, sym, subst, ⊎_elim}
use Rattle.std.specs.Prelude.{filter, flat_map, filter_map}
use Rattle.std.specs.List.{AllByRecursion, enumerate_from}
use Rattle.spec_calculus.specs.Syntax.{Process, Nil, Output, Input, Parallel, Replication, New, Let, Event, Phase, Insert, Get, Query, Secret, SecretNew, Correspondence, Protocol}
use Rattle.spec_calculus.specs.Points.{point_after, greatest_phase}
use Rattle.spec_calculus.specs.Bounds.{most_visits}
use Rattle.spec_terms.specs.Term.{Subst, Term}
use Rattle.spec_clauses.specs.Fact.{Tab, Ev, Clause}
use Rattle.spec_clauses.specs.Diff.{diff_under, numbered_diff, same_diff}
use Rattle.spec_clauses.specs.Variables.{clause_variables}
use Rattle.spec_clauses.specs.Flat.{flat, flat_parts}
use Rattle.spec_clauses.specs.Norm.{norms, numbering, distinct, is_needed}
use Rattle.spec_clauses.specs.Limits.{is_large_raw}
use Rattle.spec_clauses.specs.Inclusion.{Has}
use Rattle.spec_clauses.proofs.Inclusion.{Has-append, Has-map_source, Has-flat_map_source}
use Rattle.spec_clauses.proofs.Lists.{all_append}
use Rattle.spec_clauses.proofs.Norm.{few, simplified, norm_made}
use Rattle.spec_clauses.proofs.NormKeeps.{generalized_or}
use Rattle.spec_clauses.proofs.NormAnswers.{norms-source}
use Rattle.spec_translation.specs.Conversion.{term_in}
use Rattle.spec_translation.specs.Attacker.{name_known, fresh_known, done_in, done_after, attacker_raw}
use Rattle.spec_translation.specs.Goal.{goal_raw}
use Rattle.spec_translation.specs.Visit.{Visit, first_visit, visit_under, is_large_visit, evaluates_large, sent, raw_clause, after_input, after_copy, after_new, event_terms, after_event, after_phase, written_terms}
use Rattle.spec_translation.specs.Choice.{entry_choice}
use Rattle.spec_translation.specs.Otherwise.{otherwise_visit}
use Rattle.spec_translation.specs.Course.{Outcome, Done, TooLarge, Finished, Unless, Then, Adds}
use Rattle.spec_translation.specs.Visited.{some_large, EachThen, Copied, Received, Chosen, Fetched, Visited}
use Rattle.spec_translation.specs.Plain.{HasNoElse}
use Rattle.spec_translation.specs.Translation.{Clauses, attacker_clauses, goal_clauses, whole, IsTranslation}
use Rattle.spec_translation.proofs.Parts.{Gives, finished_gives, counted_gives, unless_gives, then_gives, adds_gives, each_gives, choice_kept, ways_kept, each_kept_gives}
use Rattle.spec_translation.proofs.Goal.{all_at, names_all, done_all}

-- A clause without constraints has norms without them.

part_diffs : (c part : Clause Term) → Has (flat_parts c) part → part.diffs ≡ c.diffs
part_diffs c part listed =
    let (f, there, same) = Has-map_source (λ f. record { hypotheses = flat_map flat c.hypotheses; diffs = c.diffs; conclusion = f }) (flat c.conclusion) part listed in
    ap (λ d. d.diffs) same

simplified_diffs : (c : Clause Term) → c.diffs ≡ [] → (simplified c).diffs ≡ []
simplified_diffs c empty = generalized_or (few c) (λ d. d.diffs ≡ []) (λ x e. refl) (ap (filter (is_needed c)) empty)

norms_diffs : (c d : Clause Term) → c.diffs ≡ [] → Has (norms c) d → d.diffs ≡ []
norms_diffs c d empty listed =
    let (part, there, is) = norms-source c d listed in
    let plain = simplified part in
    let left = simplified_diffs part (part_diffs c part there ∙ empty) in
    ap (λ e. e.diffs) (norm_made part d is).1
    ∙ ap (λ ds. distinct same_diff (map numbered_diff (map (diff_under (numbering (clause_variables plain))) ds))) left

-- without constraints

abbrev IsBare : Clause Term → Type 0
IsBare c = c.diffs ≡ []

abbrev IsBareVisit : Visit → Type 0
IsBareVisit v = v.diffs ≡ []

bare-under : (s : Subst) (v : Visit) → IsBareVisit v → IsBareVisit (visit_under s v)
bare-under s v k = ap (map (diff_under s)) k

done_bare : (P : Protocol) (phase : ℕ) → AllByRecursion IsBare (done_in P phase)
done_bare P phase = done_all IsBare P phase (λ number arguments. refl) (λ rule. refl) refl refl

later_bare : (P : Protocol) (phase count : ℕ) → AllByRecursion IsBare (done_after P phase count)
later_bare P phase zero = tt
later_bare P phase (suc count) = (refl, all_append IsBare (done_in P (phase + 1)) (done_after P (phase + 1) count) (done_bare P (phase + 1)) (later_bare P (phase + 1) count))

attacker_bare : (P : Protocol) → AllByRecursion IsBare (attacker_raw P)
attacker_bare P =
    let later = done_after P 0 (greatest_phase P.main) in
    all_append IsBare (filter_map name_known (enumerate_from 1 P.frees)) (fresh_known ∷ (done_in P 0 ++ later)) (names_all IsBare (λ number. refl) (enumerate_from 1 P.frees))
    (refl, all_append IsBare (done_in P 0) later (done_bare P 0) (later_bare P 0 (greatest_phase P.main)))

nothing_gives : (P : Protocol) (process : Process) (point : ℕ) (v : Visit) → process ≡ Nil → Gives (Visited P process point v) IsBare
nothing_gives P process point v e = subst (λ (p : Process). Gives (Visited P p point v) IsBare) (sym e) (counted_gives IsBare point Finished (finished_gives IsBare))

bare_gives : (P : Protocol) (process : Process) → HasNoElse process → (point : ℕ) (v : Visit) → IsBareVisit v → Gives (Visited P process point v) IsBare
bare_gives P Nil without point v k = counted_gives IsBare point Finished (finished_gives IsBare)
bare_gives P (Output channel message next) without point v k =
    let raw = raw_clause v (sent P v.phase (term_in P v.scope channel) (term_in P v.scope message)) in
    let large = evaluates_large P v (Output channel message next) || is_large_raw raw in
    let R = Adds (norms raw) (Visited P next (point + 1) v) in
    counted_gives IsBare point (Unless large point R) (unless_gives IsBare large point R (λ small. adds_gives IsBare (norms raw) (Visited P next (point + 1) v) (λ c. norms_diffs raw c k) (bare_gives P next without (point + 1) v k)))
bare_gives P (Input channel pattern next) without point v k =
    let R = Received P v channel pattern (λ w. Unless (is_large_visit w) point (Visited P next (point + 1) w)) in
    let large = evaluates_large P v (Input channel pattern next) in
    counted_gives IsBare point (Unless large point R) (unless_gives IsBare large point R (λ small left rest clauses x c h.
    let w = after_input P v channel pattern x.0 in
    unless_gives IsBare (is_large_visit w) point (Visited P next (point + 1) w) (λ fits. bare_gives P next without (point + 1) w k) left rest clauses x.2 c h))
bare_gives P (Parallel left right) without point v k =
    let R = Visited P left (point + 1) v in
    let S = Visited P right (point_after (point + 1) left) v in
    counted_gives IsBare point (Then R S) (then_gives IsBare R S (bare_gives P left without.0 (point + 1) v k) (bare_gives P right without.1 (point_after (point + 1) left) v k))
bare_gives P (Replication copied) without point v k =
    counted_gives IsBare point (Copied v (λ w. Visited P copied (point + 1) w)) (λ left rest clauses x c h. bare_gives P copied without (point + 1) (after_copy v x.0) k left rest clauses x.2 c h)
bare_gives P (New word next) without point v k =
    let w = after_new v point in
    counted_gives IsBare point (Unless (is_large_visit w) point (Visited P next (point + 1) w)) (unless_gives IsBare (is_large_visit w) point (Visited P next (point + 1) w) (λ small. bare_gives P next without (point + 1) w k))
bare_gives P (Let pattern expression next otherwise) without point v k =
    let R = λ (w : Visit). Visited P next (point + 1) w in
    let w_else = otherwise_visit P v pattern expression in
    let T = Visited P otherwise (point_after (point + 1) next) w_else in
    let C = Chosen P v pattern expression point R T in
    let large = evaluates_large P v (Let pattern expression next otherwise) in
    counted_gives IsBare point (Unless large point C) (unless_gives IsBare large point C (λ small left rest clauses x c h.
    let ways = ways_kept IsBareVisit bare-under P v pattern (λ at. k) expression x.0 x.1 in
    let each = each_kept_gives IsBareVisit bare-under R IsBare (λ w own. bare_gives P next without.0 (point + 1) w own) x.0 ways in
    unless_gives IsBare (some_large x.0) point (EachThen R x.0 T) (λ fits. each_gives IsBare R T (nothing_gives P otherwise (point_after (point + 1) next) w_else without.1) x.0 each) left rest clauses x.2 c h))
bare_gives P (Event performed next) without point v k =
    let raw = raw_clause v (Ev performed.event (event_terms P v performed)) in
    let w = after_event P v performed in
    let large = evaluates_large P v (Event performed next) || (is_large_raw raw || is_large_visit w) in
    let R = Adds (norms raw) (Visited P next (point + 1) w) in
    counted_gives IsBare point (Unless large point R) (unless_gives IsBare large point R (λ small. adds_gives IsBare (norms raw) (Visited P next (point + 1) w) (λ c. norms_diffs raw c k) (bare_gives P next without (point + 1) w k)))
bare_gives P (Phase number next) without point v k =
    counted_gives IsBare point (Visited P next (point + 1) (after_phase v number)) (bare_gives P next without (point + 1) (after_phase v number) k)
bare_gives P (Insert table arguments next) without point v k =
    let raw = raw_clause v (Tab table (written_terms P v arguments)) in
    let large = evaluates_large P v (Insert table arguments next) || is_large_raw raw in
    let R = Adds (norms raw) (Visited P next (point + 1) v) in
    counted_gives IsBare point (Unless large point R) (unless_gives IsBare large point R (λ small. adds_gives IsBare (norms raw) (Visited P next (point + 1) v) (λ c. norms_diffs raw c k) (bare_gives P next without (point + 1) v k)))
bare_gives P (Get table patterns condition next otherwise) without point v k =
    let R = λ (w : Visit). Visited P next (point + 1) w in
    let T = Visited P otherwise (point_after (point + 1) next) v in
    let C = Fetched P v table patterns condition point R T in
    let large = evaluates_large P v (Get table patterns condition next otherwise) in
    counted_gives IsBare point (Unless large point C) (unless_gives IsBare large point C (λ small left rest clauses x c h.
    let went = choice_kept IsBareVisit bare-under (entry_choice P v table patterns condition x.2.at) x.1 k x.2.goes_on in
    let each = each_kept_gives IsBareVisit bare-under R IsBare (λ w own. bare_gives P next without.0 (point + 1) w own) (x.1 ∷ []) (went, tt) in
    let over = x.0 || some_large (x.1 ∷ []) in
    unless_gives IsBare over point (EachThen R (x.1 ∷ []) T) (λ fits. each_gives IsBare R T (bare_gives P otherwise without.1 (point_after (point + 1) next) v k) (x.1 ∷ []) each) left rest clauses x.3 c h))

goal_bare : (P : Protocol) (q : Query) → IsBare (goal_raw P q)
goal_bare P (Secret message phase) = refl
goal_bare P (SecretNew point phase) = refl
goal_bare P (Correspondence left alternatives) = refl

-- So no clause of its translation has any.
pub clauses_bare : (P : Protocol) (q : Query) (all : List (Clause Term)) (c : Clause Term) → HasNoElse P.main → IsTranslation P q (Clauses all) → Has all c → c.diffs ≡ []
clauses_bare P q all c without translated has = go translated.0 translated.1 translated.2 where
  of_attacker : Has (attacker_clauses P) c → IsBare c
  of_attacker h = let source = Has-flat_map_source norms (attacker_raw P) c h in norms_diffs source.0 c (all_at IsBare source.1.1 (attacker_bare P)) source.2

  go : (out : Outcome) → Visited P P.main 1 first_visit most_visits out → Clauses all ≡ whole P q out → IsBare c
  go (TooLarge point) visited e = cc
  go (Done clauses left) visited e =
      let same : all ≡ attacker_clauses P ++ (clauses ++ goal_clauses P q) = cc in
      let there = subst (λ cs. Has cs c) same has in
      let later = clauses ++ goal_clauses P q in
      ⊎_elim of_attacker
      (λ k. ⊎_elim (bare_gives P P.main without 1 first_visit refl most_visits left clauses visited c) (norms_diffs (goal_raw P q) c (goal_bare P q)) ((Has-append clauses (goal_clauses P q) c).0 k))
      ((Has-append (attacker_clauses P) later c).0 there)
