-- Each clause of a translation of a protocol that is well scoped is over it.
use Rattle.std.proofs.Common.{◌≡◌, ◌∙◌, ℕ, zero, suc, ◌+◌, ◌≤◌, Bool, true, false, ◌||◌, Option, Some, None, List, [], ◌∷◌, ◌++◌, length, refl, sym, subst, inl, inr, arith, length-append}
use Rattle.std.specs.Option.{IfSome}
use Rattle.std.specs.List.{AllByRecursion}
use Rattle.std.proofs.lemmas.List.{length-map}
use Rattle.spec_trees.specs.Tree.{Leaf}
use Rattle.spec_calculus.specs.Syntax.{Name, Made, Process, Nil, Output, Input, Parallel, Replication, New, Let, Event, Phase, Insert, Get, Pattern, Expression, EventTerm, Query, Protocol}
use Rattle.spec_calculus.specs.Syntax as calculus
use Rattle.spec_calculus.specs.Points.{point_after, greatest_phase}
use Rattle.spec_calculus.specs.Bounds.{most_visits}
use Rattle.spec_well_formed.specs.Signature.{signature_of}
use Rattle.spec_well_formed.specs.Terms.{IsTermBelow, IsPatternBelow, IsExpressionBelow, IsKnown, IsEventOver, HasArity, bound_by, bound_by_row}
use Rattle.spec_well_formed.specs.Limits.{IsWithinLimits}
use Rattle.spec_well_formed.specs.Processes.{IsProcessBelow}
use Rattle.spec_well_formed.specs.Queries.{HasQueryLeaves}
use Rattle.spec_well_formed.specs.WellFormed.{IsQueryOver, IsWellScoped}
use Rattle.spec_terms.specs.Term.{Point, Term}
use Rattle.spec_clauses.specs.Fact.{Tab, Ev, Mev, Clause}
use Rattle.spec_clauses.specs.Norm.{norms}
use Rattle.spec_clauses.specs.Limits.{is_large_raw}
use Rattle.spec_clauses.proofs.Inclusion.{Has-append, Has-one}
use Rattle.spec_clauses.proofs.Lists.{all_append, all-flat_map, all_weaker}
use Rattle.spec_translation.specs.Conversion.{StandsFor, term_in, leaf_term, Fresh, pattern_term, name_term}
use Rattle.spec_translation.specs.Visit.{Visit, first_visit, is_large_visit, evaluates_large, sent, raw_clause, after_input, after_copy, after_new, event_terms, after_event, after_phase, written_terms}
use Rattle.spec_translation.specs.Otherwise.{choice_diffs, otherwise_visit}
use Rattle.spec_translation.specs.Course.{Outcome, Done, TooLarge, Course, Finished, Counted, Unless, preceded, After, Then, Adds}
use Rattle.spec_translation.specs.Visited.{some_large, EachThen, Copied, Received, Chosen, Fetched, Visited}
use Rattle.spec_translation.specs.Goal.{goal_raw}
use Rattle.spec_translation.specs.Attacker.{attacker_raw}
use Rattle.spec_translation.specs.Translation.{Clauses, attacker_clauses, goal_clauses, whole, IsTranslation}
use Rattle.spec_translation.proofs.Goal.{all_of_each}
use Rattle.spec_abstraction.proofs.Standing.{Stands, whole_stands, stands_numbered, stands_counted, output_next, input_next, parallel_left, parallel_right, replication_next, new_next, let_next, let_otherwise, event_next, phase_next, insert_next, get_next, get_otherwise}
use Rattle.spec_certificate_text.specs.OfProtocol.{IsPhase, IsRestriction, IsSymbolOf}
use Rattle.spec_readable_verdicts.proofs.Facts.{IsTermOver, AreTermsOver, IsFactOver, IsDiffOver, IsClauseOver, zero_phase, node_over, norms_over}
use Rattle.spec_readable_verdicts.proofs.Conversion.{event_over}
use Rattle.spec_readable_verdicts.proofs.Given.{attacker_over, goal_over, phase_within, point_short}
use Rattle.spec_readable_verdicts.proofs.Scopes.{IsFound, IsVisitOver, leaf_over, term_in_over, pattern_over, sent_over, scope_with, found_with, found_first, found_last, found_at}
use Rattle.spec_readable_verdicts.proofs.Choices.{all_go_over, entry_goes_over}
use Rattle.spec_readable_verdicts.proofs.Otherwise.{else_over}

-- this holds of each clause with which a course is done
abbrev AllDone : (Clause Term → Type 0) → Outcome → Type 0
AllDone Q (Done clauses left) = AllByRecursion Q clauses
AllDone Q (TooLarge point) = Unit {0}

abbrev Keeps : (Clause Term → Type 0) → Course → Type 0
Keeps Q R = (left : ℕ) (out : Outcome) → R left out → AllDone Q out

module _ (Q : Clause Term → Type 0) where
  finished_keeps : Keeps Q Finished
  finished_keeps left out x = subst (AllDone Q) (sym x) tt

  counted_keeps : (point : ℕ) (R : Course) → Keeps Q R → Keeps Q (Counted point R)
  counted_keeps point R keeps zero out x = subst (AllDone Q) (sym x) tt
  counted_keeps point R keeps (suc left) out x = keeps left out x

  unless_keeps : (b : Bool) (point : ℕ) (R : Course) → Keeps Q R → Keeps Q (Unless b point R)
  unless_keeps true point R keeps left out x = subst (AllDone Q) (sym x) tt
  unless_keeps false point R keeps left out x = keeps left out x

  preceded_keeps : (first : List (Clause Term)) (out : Outcome) → AllByRecursion Q first → AllDone Q out → AllDone Q (preceded first out)
  preceded_keeps first (Done more left) before h = all_append Q first more before h
  preceded_keeps first (TooLarge point) before h = tt

  after_keeps : (first : Outcome) (R : Course) → AllDone Q first → Keeps Q R → (out : Outcome) → After first R out → AllDone Q out
  after_keeps (Done clauses left) R before keeps out (rest, r, e) = subst (AllDone Q) (sym e) (preceded_keeps clauses rest before (keeps left rest r))
  after_keeps (TooLarge point) R before keeps out e = subst (AllDone Q) (sym e) tt

  then_keeps : (R S : Course) → Keeps Q R → Keeps Q S → Keeps Q (Then R S)
  then_keeps R S first second left out (between, r, x) = after_keeps between S (first left between r) second out x

  adds_keeps : (first : List (Clause Term)) (R : Course) → AllByRecursion Q first → Keeps Q R → Keeps Q (Adds first R)
  adds_keeps first R before keeps left out x = after_keeps (Done first left) R before keeps out x

  each_keeps : (IsSo : Visit → Type 0) (R : Visit → ℕ → Outcome → Type 0) (last : Course) → ((v : Visit) → IsSo v → Keeps Q (R v)) → Keeps Q last → (outs : List (Option Visit)) → AllByRecursion (λ out. IfSome out IsSo) outs → Keeps Q (EachThen R outs last)
  each_keeps IsSo R last keeps behind [] h = behind
  each_keeps IsSo R last keeps behind (None ∷ outs) h = each_keeps IsSo R last keeps behind outs h.1
  each_keeps IsSo R last keeps behind (Some v ∷ outs) h = then_keeps (R v) (EachThen R outs last) (keeps v h.0) (each_keeps IsSo R last keeps behind outs h.1)

module _ (P : Protocol) (limits : IsWithinLimits P) (scoped : IsWellScoped P) where
  all_norms : (raw : Clause Term) → IsClauseOver P raw → AllByRecursion (IsClauseOver P) (norms raw)
  all_norms raw h = all_of_each (IsClauseOver P) (norms raw) (λ c there. norms_over P raw c h there)

  module _ (bound : List Name) (above : ℕ) (v : Visit) (is : IsVisitOver P bound above v) where
    -- below an input
    after_input_over : (channel : calculus.Term) (pattern : Pattern) (at : Fresh) → IsTermBelow (signature_of P) bound channel → IsPatternBelow (signature_of P) bound pattern → IsVisitOver P (bound_by pattern ++ bound) (above + 1) (after_input P v channel pattern at)
    after_input_over channel pattern at to fits =
        let message = pattern_term P v.scope at pattern in
        let over = pattern_over P bound above v is at pattern fits in
        let fact = sent P v.phase (term_in P v.scope channel) message in record {
          scope = scope_with P bound above v is at pattern;
          found = found_with P bound above v is at pattern;
          hypotheses = all_append (IsFactOver P) v.hypotheses (fact ∷ []) is.hypotheses (sent_over P v.phase (term_in P v.scope channel) message is.phase (term_in_over P bound above v is channel to) over, tt);
          diffs = is.diffs;
          messages = all_append (IsTermOver P) v.messages (message ∷ []) is.messages (over, tt);
          sessions = is.sessions;
          count = omega (arith, length-append v.messages (message ∷ []), is.count);
          phase = is.phase;
        }

    -- below a replication
    after_copy_over : (n : ℕ) → IsVisitOver P bound (above + 1) (after_copy v n)
    after_copy_over n = record {
      scope = is.scope;
      found = is.found;
      hypotheses = is.hypotheses;
      diffs = is.diffs;
      messages = is.messages;
      sessions = all_append (IsTermOver P) v.sessions (Leaf n ∷ []) is.sessions (tt, tt);
      count = omega (arith, length-append v.sessions (Leaf n ∷ []), is.count);
      phase = is.phase;
    }

    -- below a restriction
    name_over : (point : ℕ) (word : List ℕ) (next : Process) → Stands P.main point (New word next) above → IsTermOver P (name_term point v.messages v.sessions)
    name_over point word next stands =
        let terms = v.messages ++ v.sessions in
        let many : length terms ≡ above = omega (arith, length-append v.messages v.sessions, is.count) in
        let there : IsRestriction P point above = record {
          word = word;
          next = next;
          there = stands_numbered P.main point (New word next) above stands;
          arity = stands_counted P.main point (New word next) above stands;
        } in
        let symbol : IsSymbolOf P (Point point) (length terms) = (subst (IsRestriction P point) (sym many) there, point_short P limits point (New word next) there.there) in
        node_over P (Point point) terms symbol (all_append (IsTermOver P) v.messages v.sessions is.messages is.sessions)

    after_new_over : (point : ℕ) (word : List ℕ) (next : Process) → Stands P.main point (New word next) above → IsVisitOver P (Made point ∷ bound) above (after_new v point)
    after_new_over point word next stands =
        let d : StandsFor = record { name = Made point; term = name_term point v.messages v.sessions } in record {
          scope = all_append (λ x. IsTermOver P x.term) v.scope (d ∷ []) is.scope (name_over point word next stands, tt);
          found = λ x h. elim ((Has-append (Made point ∷ []) bound x).0 h) as (λ _. IsFound (v.scope ++ d ∷ []) x) [
            | inl k ↦ found_last v.scope (d ∷ []) x (subst (IsFound (d ∷ [])) (sym (Has-one k)) (found_at d []))
            | inr k ↦ found_first v.scope (d ∷ []) x (is.found x k)
          ];
          hypotheses = is.hypotheses;
          diffs = is.diffs;
          messages = is.messages;
          sessions = is.sessions;
          count = is.count;
          phase = is.phase;
        }

    -- below an event
    performed_over : (e : EventTerm) → IsEventOver (signature_of P) (IsKnown (signature_of P) bound) e → IsFactOver P (Ev e.event (event_terms P v e)) × IsFactOver P (Mev e.event (event_terms P v e))
    performed_over e h =
        let k = event_over P (leaf_term v.scope) (IsKnown (signature_of P) bound) (leaf_over P bound above v is) e h in
        (record { predicate = k.0; terms = k.1 }, record { predicate = k.0; terms = k.1 })

    after_event_over : (e : EventTerm) → IsEventOver (signature_of P) (IsKnown (signature_of P) bound) e → IsVisitOver P bound above (after_event P v e)
    after_event_over e h = record {
      scope = is.scope;
      found = is.found;
      hypotheses = all_append (IsFactOver P) v.hypotheses (Mev e.event (event_terms P v e) ∷ []) is.hypotheses ((performed_over e h).1, tt);
      diffs = is.diffs;
      messages = is.messages;
      sessions = is.sessions;
      count = is.count;
      phase = is.phase;
    }

    -- in a later phase
    after_phase_over : (number : ℕ) → IsPhase P number → IsVisitOver P bound above (after_phase v number)
    after_phase_over number in_phase =
        record { scope = is.scope; found = is.found; hypotheses = is.hypotheses; diffs = is.diffs; messages = is.messages; sessions = is.sessions; count = is.count; phase = in_phase }

    -- an entry that is written
    written_over : (ts : List calculus.Term) → AllByRecursion (IsTermBelow (signature_of P) bound) ts → AreTermsOver P (written_terms P v ts)
    written_over [] below = tt
    written_over (t ∷ ts) below = (term_in_over P bound above v is t below.0, written_over ts below.1)

    inserted_over : (table : ℕ) (ts : List calculus.Term) → HasArity (signature_of P).tables table (length ts) → AllByRecursion (IsTermBelow (signature_of P) bound) ts → IsFactOver P (Tab table (written_terms P v ts))
    inserted_over table ts h below =
        record { predicate = record { declared = h.declared; there = h.stands; arity = h.is ∙ sym (length-map ts (term_in P v.scope)) }; terms = written_over ts below }

    -- in an else branch
    otherwise_over : (pattern : Pattern) (expression : Expression) → IsPatternBelow (signature_of P) bound pattern → IsExpressionBelow (signature_of P) bound expression → IsVisitOver P bound above (otherwise_visit P v pattern expression)
    otherwise_over pattern expression fits below = record {
      scope = is.scope;
      found = is.found;
      hypotheses = is.hypotheses;
      diffs = all_append (IsDiffOver P) v.diffs (choice_diffs P v.scope pattern expression) is.diffs (else_over P scoped bound above v is pattern fits expression below);
      messages = is.messages;
      sessions = is.sessions;
      count = is.count;
      phase = is.phase;
    }

  -- What the visits of a process add is over the protocol.
  visited_keeps : (process : Process) (point above : ℕ) (bound : List Name) (v : Visit) → Stands P.main point process above → IsProcessBelow (signature_of P) bound point process → greatest_phase process ≤ greatest_phase P.main → IsVisitOver P bound above v → Keeps (IsClauseOver P) (Visited P process point v)
  visited_keeps Nil point above bound v stands below up is = counted_keeps (IsClauseOver P) point Finished (finished_keeps (IsClauseOver P))
  visited_keeps (Output channel message next) point above bound v stands below up is =
      let Q = IsClauseOver P in
      let fact = sent P v.phase (term_in P v.scope channel) (term_in P v.scope message) in
      let raw = raw_clause v fact in
      let test = evaluates_large P v (Output channel message next) || is_large_raw raw in
      let R = Visited P next (point + 1) v in
      let over = sent_over P v.phase (term_in P v.scope channel) (term_in P v.scope message) is.phase (term_in_over P bound above v is channel below.0) (term_in_over P bound above v is message below.1) in
      counted_keeps Q point (Unless test point (Adds (norms raw) R)) (unless_keeps Q test point (Adds (norms raw) R)
      (adds_keeps Q (norms raw) R (all_norms raw (record { hypotheses = is.hypotheses; diffs = is.diffs; conclusion = over }))
      (visited_keeps next (point + 1) above bound v (output_next P.main point above channel message next stands) below.2 up is)))
  visited_keeps (Input channel pattern next) point above bound v stands below up is =
      let Q = IsClauseOver P in
      let R = λ (w : Visit). Unless (is_large_visit w) point (Visited P next (point + 1) w) in
      let test = evaluates_large P v (Input channel pattern next) in
      counted_keeps Q point (Unless test point (Received P v channel pattern R)) (unless_keeps Q test point (Received P v channel pattern R) (λ left out (at, fresh, x).
      let w = after_input P v channel pattern at in
      unless_keeps Q (is_large_visit w) point (Visited P next (point + 1) w)
      (visited_keeps next (point + 1) (above + 1) (bound_by pattern ++ bound) w (input_next P.main point above channel pattern next stands) below.2 up (after_input_over bound above v is channel pattern at below.0 below.1)) left out x))
  visited_keeps (Parallel left right) point above bound v stands below up is =
      let Q = IsClauseOver P in
      let R = Visited P left (point + 1) v in
      let S = Visited P right (point_after (point + 1) left) v in
      counted_keeps Q point (Then R S) (then_keeps Q R S
      (visited_keeps left (point + 1) above bound v (parallel_left P.main point above left right stands) below.0 (omega (arith, up)) is)
      (visited_keeps right (point_after (point + 1) left) above bound v (parallel_right P.main point above left right stands) below.1 (omega (arith, up)) is))
  visited_keeps (Replication copied) point above bound v stands below up is =
      counted_keeps (IsClauseOver P) point (Copied v (λ w. Visited P copied (point + 1) w)) (λ left out (n, new, x).
      visited_keeps copied (point + 1) (above + 1) bound (after_copy v n) (replication_next P.main point above copied stands) below up (after_copy_over bound above v is n) left out x)
  visited_keeps (New word next) point above bound v stands below up is =
      let Q = IsClauseOver P in
      let w = after_new v point in
      let R = Visited P next (point + 1) w in
      counted_keeps Q point (Unless (is_large_visit w) point R) (unless_keeps Q (is_large_visit w) point R
      (visited_keeps next (point + 1) above (Made point ∷ bound) w (new_next P.main point above word next stands) below.1 up (after_new_over bound above v is point word next stands)))
  visited_keeps (Let pattern expression next otherwise) point above bound v stands below up is =
      let Q = IsClauseOver P in
      let R = λ (w : Visit). Visited P next (point + 1) w in
      let w_else = otherwise_visit P v pattern expression in
      let T = Visited P otherwise (point_after (point + 1) next) w_else in
      let C = Chosen P v pattern expression point R T in
      let test = evaluates_large P v (Let pattern expression next otherwise) in
      let IsSo = IsVisitOver P (bound_by pattern ++ bound) above in
      counted_keeps Q point (Unless test point C) (unless_keeps Q test point C (λ left out (outs, go, x).
      unless_keeps Q (some_large outs) point (EachThen R outs T)
      (each_keeps Q IsSo R T
      (λ w k. visited_keeps next (point + 1) above (bound_by pattern ++ bound) w (let_next P.main point above pattern expression next otherwise stands) below.2 (omega (arith, up)) k)
      (visited_keeps otherwise (point_after (point + 1) next) above bound w_else (let_otherwise P.main point above pattern expression next otherwise stands) below.3 (omega (arith, up)) (otherwise_over bound above v is pattern expression below.0 below.1))
      outs (all_go_over P scoped bound above v is pattern below.0 expression below.1 outs go)) left out x))
  visited_keeps (Event performed next) point above bound v stands below up is =
      let Q = IsClauseOver P in
      let raw = raw_clause v (Ev performed.event (event_terms P v performed)) in
      let w = after_event P v performed in
      let R = Visited P next (point + 1) w in
      let test = evaluates_large P v (Event performed next) || (is_large_raw raw || is_large_visit w) in
      counted_keeps Q point (Unless test point (Adds (norms raw) R)) (unless_keeps Q test point (Adds (norms raw) R)
      (adds_keeps Q (norms raw) R (all_norms raw (record { hypotheses = is.hypotheses; diffs = is.diffs; conclusion = (performed_over bound above v is performed below.0).0 }))
      (visited_keeps next (point + 1) above bound w (event_next P.main point above performed next stands) below.1 up (after_event_over bound above v is performed below.0))))
  visited_keeps (Phase number next) point above bound v stands below up is =
      let w = after_phase v number in
      counted_keeps (IsClauseOver P) point (Visited P next (point + 1) w)
      (visited_keeps next (point + 1) above bound w (phase_next P.main point above number next stands) below (omega (arith, up)) (after_phase_over bound above v is number (phase_within P scoped limits number (omega (arith, up)))))
  visited_keeps (Insert table arguments next) point above bound v stands below up is =
      let Q = IsClauseOver P in
      let raw = raw_clause v (Tab table (written_terms P v arguments)) in
      let test = evaluates_large P v (Insert table arguments next) || is_large_raw raw in
      let R = Visited P next (point + 1) v in
      counted_keeps Q point (Unless test point (Adds (norms raw) R)) (unless_keeps Q test point (Adds (norms raw) R)
      (adds_keeps Q (norms raw) R (all_norms raw (record { hypotheses = is.hypotheses; diffs = is.diffs; conclusion = inserted_over bound above v is table arguments below.0 below.1 }))
      (visited_keeps next (point + 1) above bound v (insert_next P.main point above table arguments next stands) below.2 up is)))
  visited_keeps (Get table patterns condition next otherwise) point above bound v stands below up is =
      let Q = IsClauseOver P in
      let R = λ (w : Visit). Visited P next (point + 1) w in
      let T = Visited P otherwise (point_after (point + 1) next) v in
      let F = Fetched P v table patterns condition point R T in
      let test = evaluates_large P v (Get table patterns condition next otherwise) in
      let inner = bound_by_row patterns ++ bound in
      let IsSo = IsVisitOver P inner (above + length patterns) in
      counted_keeps Q point (Unless test point F) (unless_keeps Q test point F (λ left out (large, went, goes, x).
      unless_keeps Q (large || some_large (went ∷ [])) point (EachThen R (went ∷ []) T)
      (each_keeps Q IsSo R T
      (λ w k. visited_keeps next (point + 1) (above + length patterns) inner w (get_next P.main point above table patterns condition next otherwise stands) below.3 (omega (arith, up)) k)
      (visited_keeps otherwise (point_after (point + 1) next) above bound v (get_otherwise P.main point above table patterns condition next otherwise stands) below.4 (omega (arith, up)) is)
      (went ∷ []) (entry_goes_over P scoped bound above v is table patterns below.0 below.1 condition below.2 large went goes, tt)) left out x))

  -- the first visit
  first_over : IsVisitOver P [] 0 first_visit
  first_over = record { scope = tt; found = λ x h. elim h.1 [ ]; hypotheses = tt; diffs = tt; messages = tt; sessions = tt; count = refl; phase = zero_phase P }

  -- Each clause of a translation.
  pub translation_over : (q : Query) → IsQueryOver (signature_of P) q → HasQueryLeaves P q → (all : List (Clause Term)) → IsTranslation P q (Clauses all) → AllByRecursion (IsClauseOver P) all
  translation_over q asked leaves all (outcome, visited, made) =
      go outcome (visited_keeps P.main 1 0 [] first_visit (whole_stands P.main) scoped.process (omega arith) first_over most_visits outcome visited) made
    where
      attackers : AllByRecursion (IsClauseOver P) (attacker_clauses P)
      attackers = all-flat_map (IsClauseOver P) norms (attacker_raw P) (all_weaker (IsClauseOver P) (λ raw. AllByRecursion (IsClauseOver P) (norms raw)) all_norms (attacker_raw P) (attacker_over P scoped limits))

      goals : AllByRecursion (IsClauseOver P) (goal_clauses P q)
      goals = all_norms (goal_raw P q) (goal_over P scoped limits q asked leaves)

      go : (out : Outcome) → AllDone (IsClauseOver P) out → Clauses all ≡ whole P q out → AllByRecursion (IsClauseOver P) all
      go (TooLarge point) h e = cc
      go (Done clauses left) h e =
          let same : all ≡ attacker_clauses P ++ (clauses ++ goal_clauses P q) = cc in
          subst (AllByRecursion (IsClauseOver P)) (sym same)
          (all_append (IsClauseOver P) (attacker_clauses P) (clauses ++ goal_clauses P q) attackers (all_append (IsClauseOver P) clauses (goal_clauses P q) h goals))
