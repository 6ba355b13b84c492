-- A protocol and a query have one translation.
use Rattle.std.proofs.Common.{◌≡◌, ◌∙◌, ℕ, ◌+◌, ◌||◌, List, [], ◌∷◌, map, refl, ap, sym, subst}
use Rattle.spec_trees.specs.Tree.{Leaf}
use Rattle.spec_calculus.specs.Syntax.{Process, Nil, Output, Input, Parallel, Replication, New, Let, Event, Phase, Insert, Get, Pattern, Expression, EventTerm, Condition, Query, Protocol}
use Rattle.spec_calculus.specs.Syntax as calculus
use Rattle.spec_calculus.specs.Points.{point_after}
use Rattle.spec_calculus.specs.Bounds.{most_visits}
use Rattle.spec_terms.specs.Term.{Subst}
use Rattle.spec_clauses.specs.Fact.{Tab, Ev}
use Rattle.spec_clauses.specs.Norm.{norms}
use Rattle.spec_clauses.specs.Limits.{is_large_raw}
use Rattle.spec_clauses.specs.Renaming.{AreVariants}
use Rattle.spec_clauses.proofs.Variants.{variants_norms, variants_large}
use Rattle.spec_translation.specs.Conversion.{term_in}
use Rattle.spec_translation.specs.Visit.{Visit, first_visit, standing_under, visit_under, is_large_visit, evaluates_large, sent, raw_clause, after_input, after_copy, after_new, event_terms, after_event, after_phase, written_terms}
use Rattle.spec_translation.specs.Otherwise.{otherwise_visit}
use Rattle.spec_translation.specs.Course.{Outcome, Course, Finished, Unless, Then, Adds}
use Rattle.spec_translation.specs.Visited.{some_large, EachThen, Copied, Received, Chosen, Fetched, Visited}
use Rattle.spec_translation.specs.Translation.{Translated, whole, IsTranslation}
use Rattle.spec_translation.proofs.Conversions.{terms_in-under}
use Rattle.spec_translation.proofs.Visits.{IsLedBack, AreAlike, alike_led_back, led_there, channel_public, sent_there, large_visit-back, evaluates_large-back, raw_alike}
use Rattle.spec_translation.proofs.Fresh.{mixed, extended, after_input-under, after_copy-under, after_new-under, after_event-under}
use Rattle.spec_translation.proofs.Otherwise.{otherwise_visit-under}
use Rattle.spec_translation.proofs.Choices.{AllGoAlike, all_go_alike, entry_goes_alike, entry_large_alike}
use Rattle.spec_translation.proofs.Courses.{SameEnds, finished_same, counted_same, unless_same, then_same, adds_same, some_large_alike, each_same}

-- what visits go on with at visits that are alike
abbrev SameCourses : (Visit → ℕ → Outcome → Type 0) → (Visit → ℕ → Outcome → Type 0) → Type 0
SameCourses R S = (v w : Visit) → AreAlike v w → SameEnds (R v) (S w)

module _ (P : Protocol) (s t : Subst) (v : Visit) (e : IsLedBack s t v) where
  -- below an input the visits are alike, whatever new variables are taken
  received_same : (channel : calculus.Term) (pattern : Pattern) (R S : Visit → ℕ → Outcome → Type 0) → SameCourses R S → SameEnds (Received P v channel pattern R) (Received P (visit_under s v) channel pattern S)
  received_same channel pattern R S same left a b x y =
      let w = visit_under s v in
      let public = channel_public P s t v e channel in
      let home = channel_public P t s w (led_there s t v e) channel in
      let alike : AreAlike (after_input P v channel pattern x.0) (after_input P w channel pattern y.0) = record {
        by = extended s x.0 y.0;
        back = extended t y.0 x.0;
        there = after_input-under P s v channel pattern x.0 y.0 public x.1;
        again = after_input-under P t w channel pattern y.0 x.0 home y.1 ∙ (λ i. after_input P (e i) channel pattern x.0);
      } in
      same (after_input P v channel pattern x.0) (after_input P w channel pattern y.0) alike left a b x.2 y.2

  -- below a replication
  copied_same : (R S : Visit → ℕ → Outcome → Type 0) → SameCourses R S → SameEnds (Copied v R) (Copied (visit_under s v) S)
  copied_same R S same left a b x y =
      let w = visit_under s v in
      let alike : AreAlike (after_copy v x.0) (after_copy w y.0) = record {
        by = mixed x.0 s (λ d. Leaf y.0);
        back = mixed y.0 t (λ d. Leaf x.0);
        there = after_copy-under s v x.0 y.0 x.1;
        again = after_copy-under t w y.0 x.0 y.1 ∙ (λ i. after_copy (e i) x.0);
      } in
      same (after_copy v x.0) (after_copy w y.0) alike left a b x.2 y.2

  -- below a `let`
  chosen_same : (pattern : Pattern) (expression : Expression) (point : ℕ) (R S : Visit → ℕ → Outcome → Type 0) (T U : Course) → SameCourses R S → SameEnds T U → SameEnds (Chosen P v pattern expression point R T) (Chosen P (visit_under s v) pattern expression point S U)
  chosen_same pattern expression point R S T U same last left a b x y =
      let alike = all_go_alike P s t v e pattern expression x.0 y.0 x.1 y.1 in
      unless_same (some_large x.0) (some_large y.0) point (EachThen R x.0 T) (EachThen S y.0 U) (some_large_alike x.0 y.0 alike) (each_same R S T U same last x.0 y.0 alike) left a b x.2 y.2

  -- the else branch of a `let`
  otherwise_alike : (pattern : Pattern) (expression : Expression) → AreAlike (otherwise_visit P v pattern expression) (otherwise_visit P (visit_under s v) pattern expression)
  otherwise_alike pattern expression = record {
    by = s;
    back = t;
    there = otherwise_visit-under P s v pattern expression;
    again = otherwise_visit-under P t (visit_under s v) pattern expression ∙ (λ i. otherwise_visit P (e i) pattern expression);
  }

  -- below a `get`
  fetched_same : (table : ℕ) (patterns : List Pattern) (condition : Condition) (point : ℕ) (R S : Visit → ℕ → Outcome → Type 0) (T U : Course) → SameCourses R S → SameEnds T U → SameEnds (Fetched P v table patterns condition point R T) (Fetched P (visit_under s v) table patterns condition point S U)
  fetched_same table patterns condition point R S T U same last left a b x y =
      let alike : AllGoAlike (x.1 ∷ []) (y.1 ∷ []) = (entry_goes_alike P s t v e table patterns condition x.0 y.0 x.1 y.1 x.2 y.2, tt) in
      let large = entry_large_alike P s t v e table patterns condition x.0 y.0 x.1 y.1 x.2 y.2 in
      let below = some_large_alike (x.1 ∷ []) (y.1 ∷ []) alike in
      unless_same (x.0 || some_large (x.1 ∷ [])) (y.0 || some_large (y.1 ∷ [])) point (EachThen R (x.1 ∷ []) T) (EachThen S (y.1 ∷ []) U) (λ i. large i || below i)
      (each_same R S T U same last (x.1 ∷ []) (y.1 ∷ []) alike) left a b x.3 y.3

  -- in the phase that begins
  phase_alike : (number : ℕ) → AreAlike (after_phase v number) (after_phase (visit_under s v) number)
  phase_alike number = record { by = s; back = t; there = refl; again = λ i. after_phase (e i) number }

  -- below a restriction
  new_alike : (point : ℕ) → AreAlike (after_new v point) (after_new (visit_under s v) point)
  new_alike point = record {
    by = s;
    back = t;
    there = after_new-under s v point;
    again = after_new-under t (visit_under s v) point ∙ (λ i. after_new (e i) point);
  }

  -- below an event
  event_alike : (performed : EventTerm) → AreAlike (after_event P v performed) (after_event P (visit_under s v) performed)
  event_alike performed = record {
    by = s;
    back = t;
    there = after_event-under P s v performed;
    again = after_event-under P t (visit_under s v) performed ∙ (λ i. after_event P (e i) performed);
  }

  -- the raw clauses of an output, of an event and of an `insert`
  output_raw : (channel message : calculus.Term) → AreVariants (raw_clause v (sent P v.phase (term_in P v.scope channel) (term_in P v.scope message))) (raw_clause (visit_under s v) (sent P v.phase (term_in P (map (standing_under s) v.scope) channel) (term_in P (map (standing_under s) v.scope) message)))
  output_raw channel message =
      raw_alike s t v (sent P v.phase (term_in P v.scope channel) (term_in P v.scope message)) (sent P v.phase (term_in P (map (standing_under s) v.scope) channel) (term_in P (map (standing_under s) v.scope) message)) e
      (sent_there P s t v e channel message)
      (sent_there P t s (visit_under s v) (led_there s t v e) channel message ∙ (λ i. sent P (e i).phase (term_in P (e i).scope channel) (term_in P (e i).scope message)))

  event_raw : (performed : EventTerm) → AreVariants (raw_clause v (Ev performed.event (event_terms P v performed))) (raw_clause (visit_under s v) (Ev performed.event (event_terms P (visit_under s v) performed)))
  event_raw performed =
      let there = sym (terms_in-under P s v.scope performed.arguments) in
      let home = sym (terms_in-under P t (map (standing_under s) v.scope) performed.arguments) in
      raw_alike s t v (Ev performed.event (event_terms P v performed)) (Ev performed.event (event_terms P (visit_under s v) performed)) e
      (ap (Ev performed.event) there)
      (ap (Ev performed.event) home ∙ (λ i. Ev performed.event (event_terms P (e i) performed)))

  insert_raw : (table : ℕ) (arguments : List calculus.Term) → AreVariants (raw_clause v (Tab table (written_terms P v arguments))) (raw_clause (visit_under s v) (Tab table (written_terms P (visit_under s v) arguments)))
  insert_raw table arguments =
      let there = sym (terms_in-under P s v.scope arguments) in
      let home = sym (terms_in-under P t (map (standing_under s) v.scope) arguments) in
      raw_alike s t v (Tab table (written_terms P v arguments)) (Tab table (written_terms P (visit_under s v) arguments)) e
      (ap (Tab table) there)
      (ap (Tab table) home ∙ (λ i. Tab table (written_terms P (e i) arguments)))

-- a course at an alike visit, from one at an instance that is led back
at_alike : (P : Protocol) (R S : Visit → ℕ → Outcome → Type 0) → ((s t : Subst) (v : Visit) → IsLedBack s t v → SameEnds (R v) (S (visit_under s v))) → SameCourses R S
at_alike P R S same v w a = subst (λ u. SameEnds (R v) (S u)) a.there (same a.by a.back v (alike_led_back v w a))

-- Visits of one process that are alike have one outcome.
pub visited_same : (P : Protocol) (process : Process) (point : ℕ) (s t : Subst) (v : Visit) → IsLedBack s t v → SameEnds (Visited P process point v) (Visited P process point (visit_under s v))
visited_same P Nil point s t v e = counted_same point Finished Finished finished_same
visited_same P (Output channel message next) point s t v e =
    let w = visit_under s v in
    let raw = output_raw P s t v e channel message in
    let here = raw_clause v (sent P v.phase (term_in P v.scope channel) (term_in P v.scope message)) in
    let there = raw_clause w (sent P w.phase (term_in P w.scope channel) (term_in P w.scope message)) in
    let below = visited_same P next (point + 1) s t v e in
    let evaluated = sym (evaluates_large-back P s t v e (Output channel message next)) in
    let large = variants_large here there raw in
    counted_same point (Unless (evaluates_large P v (Output channel message next) || is_large_raw here) point (Adds (norms here) (Visited P next (point + 1) v)))
    (Unless (evaluates_large P w (Output channel message next) || is_large_raw there) point (Adds (norms there) (Visited P next (point + 1) w)))
    (unless_same (evaluates_large P v (Output channel message next) || is_large_raw here) (evaluates_large P w (Output channel message next) || is_large_raw there) point (Adds (norms here) (Visited P next (point + 1) v)) (Adds (norms there) (Visited P next (point + 1) w)) (λ i. evaluated i || large i)
    (adds_same (norms here) (norms there) (Visited P next (point + 1) v) (Visited P next (point + 1) w) (variants_norms here there raw) below))
visited_same P (Input channel pattern next) point s t v e =
    let w = visit_under s v in
    let R : Visit → ℕ → Outcome → Type 0 = λ u. Unless (is_large_visit u) point (Visited P next (point + 1) u) in
    let below = at_alike P R R (λ q r u f. unless_same (is_large_visit u) (is_large_visit (visit_under q u)) point (Visited P next (point + 1) u) (Visited P next (point + 1) (visit_under q u)) (sym (large_visit-back q r u f)) (visited_same P next (point + 1) q r u f)) in
    counted_same point (Unless (evaluates_large P v (Input channel pattern next)) point (Received P v channel pattern R)) (Unless (evaluates_large P w (Input channel pattern next)) point (Received P w channel pattern R))
    (unless_same (evaluates_large P v (Input channel pattern next)) (evaluates_large P w (Input channel pattern next)) point (Received P v channel pattern R) (Received P w channel pattern R) (sym (evaluates_large-back P s t v e (Input channel pattern next)))
    (received_same P s t v e channel pattern R R below))
visited_same P (Parallel left right) point s t v e =
    let w = visit_under s v in
    counted_same point (Then (Visited P left (point + 1) v) (Visited P right (point_after (point + 1) left) v)) (Then (Visited P left (point + 1) w) (Visited P right (point_after (point + 1) left) w))
    (then_same (Visited P left (point + 1) v) (Visited P left (point + 1) w) (Visited P right (point_after (point + 1) left) v) (Visited P right (point_after (point + 1) left) w) (visited_same P left (point + 1) s t v e) (visited_same P right (point_after (point + 1) left) s t v e))
visited_same P (Replication copied) point s t v e =
    let R : Visit → ℕ → Outcome → Type 0 = λ u. Visited P copied (point + 1) u in
    counted_same point (Copied v R) (Copied (visit_under s v) R)
    (copied_same P s t v e R R (at_alike P R R (λ q r u f. visited_same P copied (point + 1) q r u f)))
visited_same P (New word next) point s t v e =
    let w = visit_under s v in
    let R : Visit → ℕ → Outcome → Type 0 = λ u. Unless (is_large_visit u) point (Visited P next (point + 1) u) in
    let below = at_alike P R R (λ q r u f. unless_same (is_large_visit u) (is_large_visit (visit_under q u)) point (Visited P next (point + 1) u) (Visited P next (point + 1) (visit_under q u)) (sym (large_visit-back q r u f)) (visited_same P next (point + 1) q r u f)) in
    counted_same point (R (after_new v point)) (R (after_new w point)) (below (after_new v point) (after_new w point) (new_alike P s t v e point))
visited_same P (Let pattern expression next otherwise) point s t v e =
    let w = visit_under s v in
    let R : Visit → ℕ → Outcome → Type 0 = λ u. Visited P next (point + 1) u in
    let T : Visit → ℕ → Outcome → Type 0 = λ u. Visited P otherwise (point_after (point + 1) next) u in
    let process = Let pattern expression next otherwise in
    let v_else = otherwise_visit P v pattern expression in
    let w_else = otherwise_visit P w pattern expression in
    let last = at_alike P T T (λ q r u f. visited_same P otherwise (point_after (point + 1) next) q r u f) v_else w_else (otherwise_alike P s t v e pattern expression) in
    counted_same point (Unless (evaluates_large P v process) point (Chosen P v pattern expression point R (T v_else))) (Unless (evaluates_large P w process) point (Chosen P w pattern expression point R (T w_else)))
    (unless_same (evaluates_large P v process) (evaluates_large P w process) point (Chosen P v pattern expression point R (T v_else)) (Chosen P w pattern expression point R (T w_else)) (sym (evaluates_large-back P s t v e process))
    (chosen_same P s t v e pattern expression point R R (T v_else) (T w_else) (at_alike P R R (λ q r u f. visited_same P next (point + 1) q r u f)) last))
visited_same P (Event performed next) point s t v e =
    let w = visit_under s v in
    let process = Event performed next in
    let raw = event_raw P s t v e performed in
    let here = raw_clause v (Ev performed.event (event_terms P v performed)) in
    let there = raw_clause w (Ev performed.event (event_terms P w performed)) in
    let v_next = after_event P v performed in
    let w_next = after_event P w performed in
    let alike = event_alike P s t v e performed in
    let R : Visit → ℕ → Outcome → Type 0 = λ u. Visited P next (point + 1) u in
    let below = at_alike P R R (λ q r u f. visited_same P next (point + 1) q r u f) v_next w_next alike in
    let evaluated = sym (evaluates_large-back P s t v e process) in
    let large_raw = variants_large here there raw in
    let large_next : is_large_visit v_next ≡ is_large_visit w_next = sym (ap is_large_visit (sym alike.there) ∙ large_visit-back alike.by alike.back v_next (alike_led_back v_next w_next alike)) in
    counted_same point (Unless (evaluates_large P v process || (is_large_raw here || is_large_visit v_next)) point (Adds (norms here) (R v_next)))
    (Unless (evaluates_large P w process || (is_large_raw there || is_large_visit w_next)) point (Adds (norms there) (R w_next)))
    (unless_same (evaluates_large P v process || (is_large_raw here || is_large_visit v_next)) (evaluates_large P w process || (is_large_raw there || is_large_visit w_next)) point (Adds (norms here) (R v_next)) (Adds (norms there) (R w_next)) (λ i. evaluated i || (large_raw i || large_next i))
    (adds_same (norms here) (norms there) (R v_next) (R w_next) (variants_norms here there raw) below))
visited_same P (Phase number next) point s t v e =
    let w = visit_under s v in
    let R : Visit → ℕ → Outcome → Type 0 = λ u. Visited P next (point + 1) u in
    let below = at_alike P R R (λ q r u f. visited_same P next (point + 1) q r u f) in
    counted_same point (R (after_phase v number)) (R (after_phase w number)) (below (after_phase v number) (after_phase w number) (phase_alike P s t v e number))
visited_same P (Insert table arguments next) point s t v e =
    let w = visit_under s v in
    let process = Insert table arguments next in
    let raw = insert_raw P s t v e table arguments in
    let here = raw_clause v (Tab table (written_terms P v arguments)) in
    let there = raw_clause w (Tab table (written_terms P w arguments)) in
    let below = visited_same P next (point + 1) s t v e in
    let evaluated = sym (evaluates_large-back P s t v e process) in
    let large = variants_large here there raw in
    counted_same point (Unless (evaluates_large P v process || is_large_raw here) point (Adds (norms here) (Visited P next (point + 1) v)))
    (Unless (evaluates_large P w process || is_large_raw there) point (Adds (norms there) (Visited P next (point + 1) w)))
    (unless_same (evaluates_large P v process || is_large_raw here) (evaluates_large P w process || is_large_raw there) point (Adds (norms here) (Visited P next (point + 1) v)) (Adds (norms there) (Visited P next (point + 1) w)) (λ i. evaluated i || large i)
    (adds_same (norms here) (norms there) (Visited P next (point + 1) v) (Visited P next (point + 1) w) (variants_norms here there raw) below))
visited_same P (Get table patterns condition next otherwise) point s t v e =
    let w = visit_under s v in
    let R : Visit → ℕ → Outcome → Type 0 = λ u. Visited P next (point + 1) u in
    let T : Visit → ℕ → Outcome → Type 0 = λ u. Visited P otherwise (point_after (point + 1) next) u in
    let process = Get table patterns condition next otherwise in
    counted_same point (Unless (evaluates_large P v process) point (Fetched P v table patterns condition point R (T v))) (Unless (evaluates_large P w process) point (Fetched P w table patterns condition point R (T w)))
    (unless_same (evaluates_large P v process) (evaluates_large P w process) point (Fetched P v table patterns condition point R (T v)) (Fetched P w table patterns condition point R (T w)) (sym (evaluates_large-back P s t v e process))
    (fetched_same P s t v e table patterns condition point R R (T v) (T w) (at_alike P R R (λ q r u f. visited_same P next (point + 1) q r u f)) (visited_same P otherwise (point_after (point + 1) next) s t v e)))

-- The translation of a protocol and a query is one.
pub one_translation : (P : Protocol) (q : Query) (a b : Translated) → IsTranslation P q a → IsTranslation P q b → a ≡ b
one_translation P q a b x y =
    x.2 ∙ (ap (whole P q) (visited_same P P.main 1 Leaf Leaf first_visit refl most_visits x.0 y.0 x.1 y.1) ∙ sym y.2)
