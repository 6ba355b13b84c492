-- A thread is followed by a visit of its point: what the visit's variables stand for makes it the thread itself, and its hypotheses
-- are derived. Each step of the thread is followed by a visit below.
use Rattle.std.proofs.Common.{◌≡◌, ◌∙◌, ℕ, ◌+◌, ◌-◌, ◌<◌, ◌≤◌, Bool, true, false, cond, Option, Some, None, List, [], ◌∷◌, ◌++◌, map, filter_map, refl, ap, sym, subst, arith}
use Rattle.std.specs.Prelude.{flat_map}
use Rattle.std.specs.Option.{option_map_or}
use Rattle.std.specs.List.{AllByRecursion}
use Rattle.std.proofs.lemmas.List.{map-append}
use Rattle.std.proofs.lemmas.List.Concat.{flat_map-append}
use Rattle.spec_trees.specs.Tree.{Leaf, Node, none, more, bind}
use Rattle.spec_trees.specs.Leaves.{leaves}
use Rattle.spec_trees.proofs.Substitution.{bind-Leaf}
use Rattle.spec_calculus.specs.Syntax.{Name, Made, Variable, Hole, Bind, Equal, Pattern, Process, Nil, Output, Input, Parallel, Replication, New, Let, Event, Phase, Insert, Get, EventTerm, Declared, Protocol}
use Rattle.spec_calculus.specs.Syntax as calculus
use Rattle.spec_calculus.specs.Points.{numbered, point_after, greatest_phase}
use Rattle.spec_calculus.specs.Values.{MadeName, Value, Environment, value_of_bound, value_of, values_of}
use Rattle.spec_calculus.specs.Matching.{matched, hole_value, IsLinear}
use Rattle.spec_calculus.proofs.Patterns.{matched-sound}
use Rattle.spec_terms.specs.Term.{Ctor, Data, Tuple, Free, Point, Attacker, Term, Subst}
use Rattle.spec_clauses.specs.Fact.{Fact, Att, Mess, Tab, Ev, Mev, Clause, fact_under}
use Rattle.spec_clauses.specs.Diff.{diff_under}
use Rattle.spec_clauses.specs.Kept.{AreMetBy}
use Rattle.spec_clauses.proofs.Kept.{all_met_under}
use Rattle.spec_clauses.specs.Flat.{flat, flat_under}
use Rattle.spec_clauses.specs.Inclusion.{Has}
use Rattle.spec_derivations.specs.Derivation.{is_required_event, nothing, allowed}
use Rattle.spec_translation.specs.Conversion.{free_term, name_term, term_in, Fresh, fresh_leaf, hole_term, pattern_term, bound_number, hole_standing, pattern_scope}
use Rattle.spec_translation.specs.Visit.{Visit, standing_under, visit_under, is_public_channel, sent, raw_clause, IsFresh, after_input, after_copy, after_new, event_terms, after_event, after_phase, written_terms}
use Rattle.spec_translation.proofs.Conversions.{converted-bind, converted-same, term_in-under, terms_in-under}
use Rattle.spec_translation.proofs.Visits.{visit_agree}
use Rattle.spec_translation.proofs.Fresh.{mixed, mixed_below, mixed_from, after_new-under}
use Rattle.spec_abstraction.specs.Trace.{Past}
use Rattle.spec_abstraction.specs.Naming.{Naming, atom_term, abstracted, abstracted_binding, Carried, abstracted_visit}
use Rattle.spec_abstraction.specs.Taken.{IsTaken, HasVisit}
use Rattle.spec_abstraction.proofs.Values.{converted-of_bind, abstracted-value, abstracted-values}
use Rattle.spec_abstraction.proofs.Patterns.{bound_as, matched_in_order}
use Rattle.spec_abstraction.proofs.Conclusions.{AttackerHas, Derived, both_derived, applied, name_derived, heard_derived, sent_derived}

-- the flat of hypotheses under a substitution, which are these facts
pub flat_under_facts : (s : Subst) (hs facts : List (Fact Term)) → map (fact_under s) hs ≡ facts → flat_under s hs ≡ flat_map flat facts
flat_under_facts s hs facts e = go hs ∙ ap (flat_map flat) e where
  go : (hs : List (Fact Term)) → flat_under s hs ≡ flat_map flat (map (fact_under s) hs)
  go [] = refl
  go (h ∷ hs) = ap (λ fs. flat (fact_under s h) ++ fs) (go hs)

-- one more fact at the end
pub flats_with : (facts : List (Fact Term)) (f : Fact Term) → flat_map flat (facts ++ f ∷ []) ≡ flat_map flat facts ++ flat f
flats_with facts f = flat_map-append flat facts (f ∷ []) ∙ ap (λ fs. flat_map flat facts ++ fs) (append_nothing (flat f)) where
  append_nothing : (fs : List (Fact Term)) → fs ++ [] ≡ fs
  append_nothing [] = refl
  append_nothing (g ∷ gs) = ap (λ hs. g ∷ hs) (append_nothing gs)

-- a public channel is a declared public name
record IsPublicName (P : Protocol) (c : Term) : Type 0 where
  pub number : ℕ
  pub declared : Declared
  pub is : c ≡ free_term number
  pub stands : numbered P.frees number ≡ Some declared
  pub public : declared.public ≡ true

public_name : (P : Protocol) (c : Term) → is_public_channel P c ≡ true → IsPublicName P c
public_name P (Leaf x) e = cc
public_name P (Node (Free n) none) e = go (numbered P.frees n) refl e where
  go : (o : Option Declared) → numbered P.frees n ≡ o → option_map_or (λ declared. declared.public) o false ≡ true → IsPublicName P (Node (Free n) none)
  go None f h = cc
  go (Some declared) f h = record { number = n; declared = declared; is = refl; stands = f; public = h }
public_name P (Node (Free n) (more t ts)) e = cc
public_name P (Node (Ctor f) args) e = cc
public_name P (Node (Data f) args) e = cc
public_name P (Node (Tuple n) args) e = cc
public_name P (Node (Point p) args) e = cc
public_name P (Node Attacker args) e = cc

-- A thread stands in the phase of the run, unless it waits for a later one.
abbrev pub IsInPhase : Process → ℕ → ℕ → Type 0
IsInPhase (Phase number next) phase now = Unit {0}
IsInPhase process phase now = phase ≡ now

pub phase_goes_on : (process : Process) (phase now : ℕ) → phase ≡ now → IsInPhase process phase now
phase_goes_on Nil phase now e = e
phase_goes_on (Output channel message next) phase now e = e
phase_goes_on (Input channel pattern next) phase now e = e
phase_goes_on (Parallel left right) phase now e = e
phase_goes_on (Replication copied) phase now e = e
phase_goes_on (New word next) phase now e = e
phase_goes_on (Let pattern expression next otherwise) phase now e = e
phase_goes_on (Event performed next) phase now e = e
phase_goes_on (Phase number next) phase now e = tt
phase_goes_on (Insert table arguments next) phase now e = e
phase_goes_on (Get table patterns condition next otherwise) phase now e = e

module _ (P : Protocol) (names : Naming) where
  -- a term of a visit is the value's term, where the visit is the thread
  pub term_there : (by : Subst) (v : Visit) (environment : Environment) (past : Past) (carried : Carried) → visit_under by v ≡ abstracted_visit P names environment past carried → (t : calculus.Term) → bind by (term_in P v.scope t) ≡ abstracted P names (value_of environment t)
  term_there by v environment past carried closed t =
      sym (term_in-under P by v.scope t) ∙ ((λ i. term_in P (closed i).scope t) ∙ sym (abstracted-value P names environment t))

  pub terms_there : (by : Subst) (v : Visit) (environment : Environment) (past : Past) (carried : Carried) → visit_under by v ≡ abstracted_visit P names environment past carried → (ts : List calculus.Term) → map (bind by) (map (term_in P v.scope) ts) ≡ map (abstracted P names) (values_of environment ts)
  terms_there by v environment past carried closed ts =
      sym (terms_in-under P by v.scope ts) ∙ ((λ i. map (term_in P (closed i).scope) ts) ∙ sym (abstracted-values P names environment ts))

  -- What a pattern's new variables stand for: what the match has bound.
  module _ (by : Subst) (at : Fresh) (bs : Environment) where
    abbrev pub pattern_values : Subst
    pattern_values = mixed at.base by (λ d. abstracted P names (value_of_bound bs (Variable (d + at.first))))

    pub pattern_values_below : (x : ℕ) → x < at.base → pattern_values x ≡ by x
    pattern_values_below x h = mixed_below at.base by (λ d. abstracted P names (value_of_bound bs (Variable (d + at.first)))) x h

    fresh_value : (n : ℕ) → at.first ≤ n → bind pattern_values (fresh_leaf at n) ≡ abstracted P names (value_of_bound bs (Variable n))
    fresh_value n h =
        let e : n - at.first + at.first ≡ n = omega (arith, h) in
        mixed_from at.base by (λ d. abstracted P names (value_of_bound bs (Variable (d + at.first)))) (n - at.first) ∙ ap (λ m. abstracted P names (value_of_bound bs (Variable m))) e

    holes_bound : (holes : List Hole) → AllByRecursion (λ n. at.first ≤ n) (filter_map bound_number holes) → map (standing_under pattern_values) (filter_map (hole_standing at) holes) ≡ map (abstracted_binding P names) (map (bound_as bs) (filter_map bound_number holes))
    holes_bound [] a = refl
    holes_bound (Bind n ∷ holes) a =
        let first = fresh_value n a.0 in
        let others = holes_bound holes a.1 in λ i. record { name = Variable n; term = first i } ∷ others i
    holes_bound (Equal term ∷ holes) a = holes_bound holes a

    module _ (v : Visit) (environment : Environment) (past : Past) (carried : Carried) (closed : visit_under by v ≡ abstracted_visit P names environment past carried) (pattern : Pattern) (fresh : IsFresh v pattern at) (value : Value) (linear : IsLinear pattern) (match : matched environment pattern value ≡ Some bs) where
      -- the visit stays what it is
      pub visit_there : visit_under pattern_values v ≡ abstracted_visit P names environment past carried
      visit_there = visit_agree pattern_values by at.base pattern_values_below v fresh.is_new ∙ closed

      -- with what the pattern binds
      pub scope_there : map (standing_under pattern_values) (v.scope ++ pattern_scope at pattern) ≡ map (abstracted_binding P names) (environment ++ bs)
      scope_there =
          let bound = holes_bound (leaves pattern) fresh.from_first ∙ ap (map (abstracted_binding P names)) (sym (matched_in_order environment pattern value bs linear match)) in
          let same = visit_there in
          map-append (standing_under pattern_values) v.scope (pattern_scope at pattern)
          ∙ ((λ i. (same i).scope ++ bound i) ∙ sym (map-append (abstracted_binding P names) environment bs))

      holes_there : (holes : List Hole) → AllByRecursion (λ n. at.first ≤ n) (filter_map bound_number holes) → AllByRecursion (λ h. bind pattern_values (hole_term P v.scope at h) ≡ abstracted P names (hole_value environment bs h)) holes
      holes_there [] a = tt
      holes_there (Bind n ∷ holes) a = (fresh_value n a.0, holes_there holes a.1)
      holes_there (Equal term ∷ holes) a = (term_there pattern_values v environment past carried visit_there term, holes_there holes a)

      -- and the pattern's term is the value's
      pub pattern_there : bind pattern_values (pattern_term P v.scope at pattern) ≡ abstracted P names value
      pattern_there =
          let is_filled = matched-sound environment pattern value bs linear match in
          converted-bind P pattern_values (hole_term P v.scope at) pattern
          ∙ (converted-same P (λ h. bind pattern_values (hole_term P v.scope at h)) (λ h. abstracted P names (hole_value environment bs h)) pattern (holes_there (leaves pattern) fresh.from_first)
          ∙ (sym (converted-of_bind P (atom_term names) (hole_value environment bs) pattern) ∙ ap (abstracted P names) (sym is_filled)))

  module _ (all : List (Clause Term)) (has : AttackerHas P all) where
    -- The thread at the process, which stands at the point, is followed in the phase `now`.
    pub record Follows (events : List (Fact Term)) (now : ℕ) (process : Process) (point : ℕ) (environment : Environment) (past : Past) : Type 0 where
      pub visit : Visit
      pub by : Subst
      pub carried : Carried
      pub has_visit : HasVisit all P process point visit
      pub closed : visit_under by visit ≡ abstracted_visit P names environment past carried
      pub in_phase : IsInPhase process carried.phase now
      pub met : AreMetBy Leaf carried.diffs
      pub derived : Derived P all events (flat_map flat carried.facts)

    module _ (events : List (Fact Term)) (now : ℕ) (within : now ≤ greatest_phase P.main) (point : ℕ) (environment : Environment) (past : Past) where
      -- the premises of a raw clause of the visit
      premises_derived : (process : Process) (f : Follows events now process point environment past) → Derived P all events (flat_under f.by f.visit.hypotheses)
      premises_derived process f = subst (Derived P all events) (sym (flat_under_facts f.by f.visit.hypotheses f.carried.facts (λ i. (f.closed i).hypotheses))) f.derived

      -- its constraints are met
      premises_met : (process : Process) (f : Follows events now process point environment past) → AreMetBy f.by f.visit.diffs
      premises_met process f =
          let under : AreMetBy Leaf (map (diff_under f.by) f.visit.diffs) = subst (AreMetBy Leaf) (sym (λ i. (f.closed i).diffs)) f.met in
          subst (λ s. AreMetBy s f.visit.diffs) (λ i. (λ x. bind-Leaf (f.by x) i)) ((all_met_under Leaf f.by f.visit.diffs).0 under)

      -- the phase of the visit, where it is that of the run
      visit_phase : (process : Process) (f : Follows events now process point environment past) → f.carried.phase ≡ now → f.visit.phase ≡ now
      visit_phase process f e = (λ i. (f.closed i).phase) ∙ e

      -- a message that is sent on a channel, whether that is public or not
      message_derived : (by : Subst) (c m : Term) → Derived P all events (flat (fact_under by (sent P now c m))) → Derived P all events (Mess now (bind by c) (bind by m) ∷ [])
      message_derived by c m d = go (is_public_channel P c) refl
        where
          go : (b : Bool) → is_public_channel P c ≡ b → Derived P all events (Mess now (bind by c) (bind by m) ∷ [])
          go false e =
              let same : flat (fact_under by (sent P now c m)) ≡ Mess now (bind by c) (bind by m) ∷ [] = rw e refl in
              subst (Derived P all events) same d
          go true e =
              let name = public_name P c e in
              let same : flat (fact_under by (sent P now c m)) ≡ flat (Att now (bind by m)) = rw e refl in
              let channel : bind by c ≡ free_term name.number = ap (bind by) name.is in
              subst (λ t. Derived P all events (Mess now t (bind by m) ∷ [])) (sym channel)
              (sent_derived P all events has now within (free_term name.number) (bind by m) (name_derived P all events has now within name.number name.declared name.stands name.public) (subst (Derived P all events) same d))

      -- and no event
      sent_no_event : (c m : Term) → is_required_event (sent P now c m) ≡ false
      sent_no_event c m = elim (is_public_channel P c) as (λ b. is_required_event (cond b (Att now m) (Mess now c m)) ≡ false) [ true ↦ refl | false ↦ refl ]

      -- what a thread sends is derived
      pub output_sends : (channel message : calculus.Term) (next : Process) → Follows events now (Output channel message next) point environment past → Derived P all events (Mess now (abstracted P names (value_of environment channel)) (abstracted P names (value_of environment message)) ∷ [])
      output_sends channel message next f =
          let c = term_in P f.visit.scope channel in
          let m = term_in P f.visit.scope message in
          let raw = raw_clause f.visit (sent P now c m) in
          let taken = subst (λ k. IsTaken all (raw_clause f.visit (sent P k c m))) (visit_phase (Output channel message next) f f.in_phase) f.has_visit.0 in
          let d = applied P all events raw f.by (sent_no_event c m) taken (premises_met (Output channel message next) f) (premises_derived (Output channel message next) f) in
          let to = term_there f.by f.visit environment past f.carried f.closed channel in
          let what = term_there f.by f.visit environment past f.carried f.closed message in
          subst (Derived P all events) (λ i. Mess now (to i) (what i) ∷ []) (message_derived f.by c m d)

      pub output_follows : (channel message : calculus.Term) (next : Process) → Follows events now (Output channel message next) point environment past → Follows events now next (point + 1) environment past
      output_follows channel message next f = record { visit = f.visit; by = f.by; carried = f.carried; has_visit = f.has_visit.1; closed = f.closed; in_phase = phase_goes_on next f.carried.phase now f.in_phase; met = f.met; derived = f.derived }

      -- the fact of a message that was received, public or not
      received_derived : (by : Subst) (c m t u : Term) → bind by c ≡ t → bind by m ≡ u → Derived P all events (Mess now t u ∷ []) → Derived P all events (flat (fact_under by (sent P now c m)))
      received_derived by c m t u to what d = go (is_public_channel P c) refl
        where
          go : (b : Bool) → is_public_channel P c ≡ b → Derived P all events (flat (fact_under by (sent P now c m)))
          go false e =
              let same : Mess now t u ∷ [] ≡ flat (fact_under by (sent P now c m)) = rw e (λ i. Mess now (sym to i) (sym what i) ∷ []) in
              subst (Derived P all events) same d
          go true e =
              let name = public_name P c e in
              let channel : t ≡ free_term name.number = sym to ∙ ap (bind by) name.is in
              let heard = heard_derived P all events has now within t u d (subst (λ s. Derived P all events (flat (Att now s))) (sym channel) (name_derived P all events has now within name.number name.declared name.stands name.public)) in
              let same : flat (Att now u) ≡ flat (fact_under by (sent P now c m)) = rw e (ap (λ s. flat (Att now s)) (sym what)) in
              subst (Derived P all events) same heard

      -- an input that receives a message
      pub input_follows : (channel : calculus.Term) (pattern : Pattern) (next : Process) (value : Value) (bs : Environment) → IsLinear pattern → matched environment pattern value ≡ Some bs → Derived P all events (Mess now (abstracted P names (value_of environment channel)) (abstracted P names value) ∷ []) → Follows events now (Input channel pattern next) point environment past → Follows events now next (point + 1) (environment ++ bs) (record past { messages = past.messages ++ value ∷ [] })
      input_follows channel pattern next value bs linear match d f =
          let at = f.has_visit.0 in
          let fresh = f.has_visit.1 in
          let by = pattern_values f.by at bs in
          let same = visit_there f.by at bs f.visit environment past f.carried f.closed pattern fresh value linear match in
          let scopes = scope_there f.by at bs f.visit environment past f.carried f.closed pattern fresh value linear match in
          let message = pattern_there f.by at bs f.visit environment past f.carried f.closed pattern fresh value linear match in
          let c = term_in P f.visit.scope channel in
          let m = pattern_term P f.visit.scope at pattern in
          let fact = fact_under by (sent P now c m) in
          let to = term_there by f.visit environment past f.carried same channel in
          let at_visit = visit_phase (Input channel pattern next) f f.in_phase in
          let facts = map-append (fact_under by) f.visit.hypotheses (sent P f.visit.phase c m ∷ []) ∙ (λ i. (same i).hypotheses ++ fact_under by (sent P (at_visit i) c m) ∷ []) in
          let messages = map-append (bind by) f.visit.messages (m ∷ []) ∙ ((λ i. (same i).messages ++ message i ∷ []) ∙ sym (map-append (abstracted P names) past.messages (value ∷ []))) in
          record {
            visit = after_input P f.visit channel pattern at;
            by = by;
            carried = record { facts = f.carried.facts ++ fact ∷ []; diffs = f.carried.diffs; phase = f.carried.phase };
            has_visit = f.has_visit.2;
            closed = λ i. record { scope = scopes i; hypotheses = facts i; diffs = (same i).diffs; messages = messages i; sessions = (same i).sessions; phase = (same i).phase };
            in_phase = phase_goes_on next f.carried.phase now f.in_phase;
            met = f.met;
            derived = subst (Derived P all events) (sym (flats_with f.carried.facts fact))
                (both_derived P all events (flat_map flat f.carried.facts) (flat fact) f.derived
                (received_derived by c m (abstracted P names (value_of environment channel)) (abstracted P names value) to message d));
          }

      -- a parallel composition, a replication, a restriction, an event
      pub left_follows : (left right : Process) → Follows events now (Parallel left right) point environment past → Follows events now left (point + 1) environment past
      left_follows left right f = record { visit = f.visit; by = f.by; carried = f.carried; has_visit = f.has_visit.0; closed = f.closed; in_phase = phase_goes_on left f.carried.phase now f.in_phase; met = f.met; derived = f.derived }

      pub right_follows : (left right : Process) → Follows events now (Parallel left right) point environment past → Follows events now right (point_after (point + 1) left) environment past
      right_follows left right f = record { visit = f.visit; by = f.by; carried = f.carried; has_visit = f.has_visit.1; closed = f.closed; in_phase = phase_goes_on right f.carried.phase now f.in_phase; met = f.met; derived = f.derived }

      pub copy_follows : (copied : Process) (copy : ℕ) → Follows events now (Replication copied) point environment past → Follows events now copied (point + 1) environment (record past { sessions = past.sessions ++ copy ∷ [] })
      copy_follows copied copy f =
          let n = f.has_visit.0 in
          let by = mixed n f.by (λ d. Leaf copy) in
          let same = visit_agree by f.by n (mixed_below n f.by (λ d. Leaf copy)) f.visit f.has_visit.1 ∙ f.closed in
          let e : n + 0 ≡ n = omega arith in
          let last : bind by (Leaf n) ≡ Leaf copy = ap by (sym e) ∙ mixed_from n f.by (λ d. Leaf copy) 0 in
          let sessions = map-append (bind by) f.visit.sessions (Leaf n ∷ []) ∙ ((λ i. (same i).sessions ++ last i ∷ []) ∙ sym (map-append Leaf past.sessions (copy ∷ []))) in
          record {
            visit = after_copy f.visit n;
            by = by;
            carried = f.carried;
            has_visit = f.has_visit.2;
            closed = λ i. record { scope = (same i).scope; hypotheses = (same i).hypotheses; diffs = (same i).diffs; messages = (same i).messages; sessions = sessions i; phase = (same i).phase };
            in_phase = phase_goes_on copied f.carried.phase now f.in_phase;
            met = f.met;
            derived = f.derived;
          }

      pub new_follows : (word : List ℕ) (next : Process) (number : ℕ) → names point number ≡ name_term point (map (abstracted P names) past.messages) (map Leaf past.sessions) → Follows events now (New word next) point environment past → Follows events now next (point + 1) (environment ++ record { name = Made point; value = Leaf (MadeName point number) } ∷ []) past
      new_follows word next number is_named f =
          let v = f.visit in
          let made = λ (w : Visit). name_term point w.messages w.sessions in
          let scopes = (λ i. (after_new-under f.by v point i).scope) ∙ ((λ i. (f.closed i).scope ++ record { name = Made point; term = made (f.closed i) } ∷ [])
          ∙ ((λ i. map (abstracted_binding P names) environment ++ record { name = Made point; term = sym is_named i } ∷ []) ∙ sym (map-append (abstracted_binding P names) environment (record { name = Made point; value = Leaf (MadeName point number) } ∷ [])))) in
          record {
            visit = after_new v point;
            by = f.by;
            carried = f.carried;
            has_visit = f.has_visit;
            closed = λ i. record { scope = scopes i; hypotheses = (f.closed i).hypotheses; diffs = (f.closed i).diffs; messages = (f.closed i).messages; sessions = (f.closed i).sessions; phase = (f.closed i).phase };
            in_phase = phase_goes_on next f.carried.phase now f.in_phase;
            met = f.met;
            derived = f.derived;
          }

      -- the event that is performed is derived, with those allowed that were performed before it
      pub event_derived : (performed : EventTerm) (next : Process) → Follows events now (Event performed next) point environment past → Derived P all events (Ev performed.event (map (abstracted P names) (values_of environment performed.arguments)) ∷ [])
      event_derived performed next f =
          let raw = raw_clause f.visit (Ev performed.event (event_terms P f.visit performed)) in
          let d = applied P all events raw f.by refl f.has_visit.0 (premises_met (Event performed next) f) (premises_derived (Event performed next) f) in
          let terms = terms_there f.by f.visit environment past f.carried f.closed performed.arguments in
          subst (Derived P all events) (λ i. Ev performed.event (terms i) ∷ []) d

      pub event_follows : (performed : EventTerm) (next : Process) → Has events (Mev performed.event (map (abstracted P names) (values_of environment performed.arguments))) → Follows events now (Event performed next) point environment past → Follows events now next (point + 1) environment past
      event_follows performed next has_run f =
          let terms = terms_there f.by f.visit environment past f.carried f.closed performed.arguments in
          let fact = Mev performed.event (map (abstracted P names) (values_of environment performed.arguments)) in
          let facts = map-append (fact_under f.by) f.visit.hypotheses (Mev performed.event (event_terms P f.visit performed) ∷ []) ∙ (λ i. (f.closed i).hypotheses ++ Mev performed.event (terms i) ∷ []) in
          record {
            visit = after_event P f.visit performed;
            by = f.by;
            carried = record { facts = f.carried.facts ++ fact ∷ []; diffs = f.carried.diffs; phase = f.carried.phase };
            has_visit = f.has_visit.1;
            closed = λ i. record { scope = (f.closed i).scope; hypotheses = facts i; diffs = (f.closed i).diffs; messages = (f.closed i).messages; sessions = (f.closed i).sessions; phase = (f.closed i).phase };
            in_phase = phase_goes_on next f.carried.phase now f.in_phase;
            met = f.met;
            derived = subst (Derived P all events) (sym (flats_with f.carried.facts fact))
                (both_derived P all events (flat_map flat f.carried.facts) (flat fact) f.derived (allowed has_run nothing));
          }

      -- an entry that is written is derived
      pub entry_derived : (table : ℕ) (arguments : List calculus.Term) (next : Process) → Follows events now (Insert table arguments next) point environment past → Derived P all events (Tab table (map (abstracted P names) (values_of environment arguments)) ∷ [])
      entry_derived table arguments next f =
          let raw = raw_clause f.visit (Tab table (written_terms P f.visit arguments)) in
          let d = applied P all events raw f.by refl f.has_visit.0 (premises_met (Insert table arguments next) f) (premises_derived (Insert table arguments next) f) in
          let terms = terms_there f.by f.visit environment past f.carried f.closed arguments in
          subst (Derived P all events) (λ i. Tab table (terms i) ∷ []) d

      pub insert_follows : (table : ℕ) (arguments : List calculus.Term) (next : Process) → Follows events now (Insert table arguments next) point environment past → Follows events now next (point + 1) environment past
      insert_follows table arguments next f = record { visit = f.visit; by = f.by; carried = f.carried; has_visit = f.has_visit.1; closed = f.closed; in_phase = phase_goes_on next f.carried.phase now f.in_phase; met = f.met; derived = f.derived }

    -- a thread that waits for the phase goes on in it
    pub phase_follows : (events : List (Fact Term)) (now number point : ℕ) (environment : Environment) (past : Past) (next : Process) → Follows events now (Phase number next) point environment past → Follows events number next (point + 1) environment past
    phase_follows events now number point environment past next f = record {
      visit = after_phase f.visit number;
      by = f.by;
      carried = record { facts = f.carried.facts; diffs = f.carried.diffs; phase = number };
      has_visit = f.has_visit;
      closed = λ i. record { scope = (f.closed i).scope; hypotheses = (f.closed i).hypotheses; diffs = (f.closed i).diffs; messages = (f.closed i).messages; sessions = (f.closed i).sessions; phase = number };
      in_phase = phase_goes_on next number number refl;
      met = f.met;
      derived = f.derived;
    }

    -- and one that waits for a later one waits on
    pub wait_follows : (events : List (Fact Term)) (now later number point : ℕ) (environment : Environment) (past : Past) (next : Process) → Follows events now (Phase number next) point environment past → Follows events later (Phase number next) point environment past
    wait_follows events now later number point environment past next f = record { visit = f.visit; by = f.by; carried = f.carried; has_visit = f.has_visit; closed = f.closed; in_phase = tt; met = f.met; derived = f.derived }
