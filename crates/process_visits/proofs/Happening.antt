-- Events: the raw clause, and the visit below.
use Rattle.std.proofs.Common.{◌≡◌, ℕ, Bool, true, false, ◌||◌, Option, Some, None, List, [], ◌∷◌, ◌++◌, map, refl, ap, sym, subst}
use Rattle.std.specs.Prelude.{flat_map}
use Rattle.spec_terms.specs.Term.{Term}
use Rattle.spec_clauses.specs.Fact.{Fact, Ev, Mev, terms_of}
use Rattle.spec_clauses.specs.Variables.{IsBelow, AreBelow}
use Rattle.spec_clauses.proofs.Lists.{all_append, all_first, all_second}
use Rattle.spec_calculus.specs.Syntax.{EventTerm, Protocol}
use Rattle.spec_clauses.specs.Limits.{is_large_raw}
use Rattle.spec_clauses.specs.Norm.{norms}
use Rattle.spec_translation.specs.Visit.{Visit, is_large_visit, after_event}
use Rattle.term_tree.specs.Bank.{tree_at, AreKnown}
use Rattle.term_tree.specs.declared.bank.Id.{Id}
use Rattle.term_tree.proofs.BankLaws.{Grows_refl}
use Rattle.clause_form.specs.Seen.{NamesFact, IdClause}
use Rattle.clause_form.proofs.Copying.{NameFacts-push}
use Rattle.unified_visits.specs.declared.visit.Visit as source
use Rattle.process_visits.specs.declared.listing.Listing.{Listing}
use Rattle.process_visits.specs.Forms.{Adds, raw_event, below_event, event_raw, is_large_event, are_large_in, IsSmallVisit, ShowsClause, EventAdds}
use Rattle.unified_visits.specs.Visits.{visit_at, IsVisitIn, NamesVisit}
use Rattle.unified_visits.proofs.Named.{below_parts, scope_later, hypotheses_later, messages_later, sessions_later, diffs_later, visit_named}
use Rattle.process_visits.proofs.Adding.{raw_named}

event_fact : (all : List Term) (event : ℕ) (ids : List Id) → AreKnown all ids → NamesFact all (Ev event ids) (Ev event (map (tree_at all) ids))
event_fact all event ids known = record { known = known; is = refl }

pub event_named : (all : List Term) (v : source.Visit) (event : ℕ) (ids : List Id) (raw : IdClause) → IsVisitIn all v → AreKnown all ids → raw ≡ record { hypotheses = v.hypotheses; diffs = v.diffs; conclusion = Ev event ids } → ShowsClause all raw (raw_event (visit_at all v) event (map (tree_at all) ids))
event_named all v event ids raw known args e =
    subst (λ (c : IdClause). ShowsClause all c (raw_event (visit_at all v) event (map (tree_at all) ids))) (sym e)
    (raw_named all v.hypotheses v.diffs (Ev event ids) (visit_at all v) (Ev event (map (tree_at all) ids)) (hypotheses_later all all v (Grows_refl all) known) (diffs_later all all v (Grows_refl all) known) (event_fact all event ids args))

-- one more fact's variables
pub facts_below : (n : ℕ) (fs : List (Fact Term)) (f : Fact Term) → AreBelow n (flat_map terms_of fs) → AreBelow n (terms_of f) → AreBelow n (flat_map terms_of (fs ++ f ∷ []))
facts_below n [] f b c = all_append (IsBelow n) (terms_of f) [] c tt
facts_below n (g ∷ fs) f b c =
    all_append (IsBelow n) (terms_of g) (flat_map terms_of (fs ++ f ∷ [])) (all_first (IsBelow n) (terms_of g) (flat_map terms_of fs) b) (facts_below n fs f (all_second (IsBelow n) (terms_of g) (flat_map terms_of fs) b) c)

pub evented : (all : List Term) (v : source.Visit) (event : ℕ) (ids : List Id) (made : source.Visit) → IsVisitIn all v → AreKnown all ids → AreBelow v.next (map (tree_at all) ids) → made ≡ record v { hypotheses = v.hypotheses ++ Mev event ids ∷ [] }
    → NamesVisit all made (below_event (visit_at all v) event (map (tree_at all) ids))
evented all v event ids made known args below e =
    let parts = below_parts all all v (Grows_refl all) known in
    let whole : source.Visit = record v { hypotheses = v.hypotheses ++ Mev event ids ∷ [] } in
    subst (λ (m : source.Visit). NamesVisit all m (below_event (visit_at all v) event (map (tree_at all) ids))) (sym e)
    (visit_named all whole (below_event (visit_at all v) event (map (tree_at all) ids)) (scope_later all all v (Grows_refl all) known)
    (NameFacts-push all v.hypotheses (visit_at all v).hypotheses (Mev event ids) (Mev event (map (tree_at all) ids)) (hypotheses_later all all v (Grows_refl all) known) record { known = args; is = refl })
    (messages_later all all v (Grows_refl all) known) (sessions_later all all v (Grows_refl all) known) (diffs_later all all v (Grows_refl all) known) refl
    record {
      scope = parts.scope;
      hypotheses = facts_below v.next (visit_at all v).hypotheses (Mev event (map (tree_at all) ids)) parts.hypotheses below;
      messages = parts.messages;
      sessions = parts.sessions;
      diffs = parts.diffs;
    }
    known.room)

-- whether a visit with an event is too large, part by part
pub first_large : (a b c : Bool) → a ≡ true → (a || (b || c)) ≡ true
first_large a b c e = ap (λ x. x || (b || c)) e

pub second_large : (a b c : Bool) → b ≡ true → (a || (b || c)) ≡ true
second_large true b c e = refl
second_large false b c e = ap (λ x. x || c) e

pub third_large : (a b c : Bool) → c ≡ true → (a || (b || c)) ≡ true
third_large true b c e = refl
third_large false true c e = refl
third_large false false c e = e

pub none_large : (a b c : Bool) → a ≡ false → b ≡ false → c ≡ false → (a || (b || c)) ≡ false
none_large a b c e f h = rw e (rw f h)

-- the answers of a visit of an event
module _ (P : Protocol) (v : Visit) (e : EventTerm) where
  pub event_first : are_large_in P v.scope e.arguments ≡ true → is_large_event P v e ≡ true
  event_first large = first_large (are_large_in P v.scope e.arguments) (is_large_raw (event_raw P v e)) (is_large_visit (after_event P v e)) large

  pub event_second : is_large_raw (event_raw P v e) ≡ true → is_large_event P v e ≡ true
  event_second large = second_large (are_large_in P v.scope e.arguments) (is_large_raw (event_raw P v e)) (is_large_visit (after_event P v e)) large

  pub event_last : (new : List Term) (before after : Listing) (found : Option source.Visit) → are_large_in P v.scope e.arguments ≡ false → is_large_raw (event_raw P v e) ≡ false → Adds new before after (norms (event_raw P v e))
      → IsSmallVisit new (after_event P v e) found → EventAdds P v e new before after found
  event_last new before after None small raw adds visit = third_large (are_large_in P v.scope e.arguments) (is_large_raw (event_raw P v e)) (is_large_visit (after_event P v e)) visit
  event_last new before after (Some made) small raw adds visit = record {
    small = none_large (are_large_in P v.scope e.arguments) (is_large_raw (event_raw P v e)) (is_large_visit (after_event P v e)) small raw visit.0;
    adds = adds;
    names = visit.1;
  }
