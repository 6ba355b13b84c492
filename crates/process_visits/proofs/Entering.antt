-- Visits with the entries that are taken, and how these go on.
use Rattle.std.proofs.Common.{◌≡◌, ℕ, ◌+◌, ◌-◌, ◌<◌, ◌^◌, Bool, true, false, ◌||◌, Option, Some, None, List, [], ◌∷◌, ◌++◌, map, refl, ap, sym, subst, ◌∙◌, arith}
use Rattle.std.specs.Prelude.{MatchOption, MatchBool}
use Rattle.std.specs.List.{AllByRecursion, list_any}
use Rattle.std.proofs.lemmas.List.{map-append}
use Rattle.std.proofs.lemmas.List.Elements.{filter_map-append}
use Rattle.spec_trees.specs.Tree.{Leaf, bind, trees}
use Rattle.spec_trees.specs.Leaves.{leaves, row_leaves}
use Rattle.spec_calculus.specs.Syntax.{Pattern, Condition, Protocol}
use Rattle.spec_calculus.specs.Syntax as calculus
use Rattle.spec_calculus.specs.Tables.{row_pattern, sides}
use Rattle.spec_terms.specs.Term.{Term, Subst}
use Rattle.spec_terms.specs.Binding.{resolved}
use Rattle.spec_clauses.specs.Fact.{Tab}
use Rattle.spec_clauses.specs.Variables.{IsBelow, AreBelow}
use Rattle.spec_clauses.proofs.Lists.{all_append, all_first, all_second, all_weaker}
use Rattle.spec_translation.specs.Conversion.{Scope, Fresh, free_term, term_in, pattern_term, bound_number, bound_numbers, pattern_scope}
use Rattle.spec_translation.specs.Visit.{Visit, visit_terms, visit_under, is_large_term, is_large_visit, after_entry}
use Rattle.spec_translation.specs.Choice.{GoesOn, left_of, right_of, entry_choice, has_large_side}
use Rattle.spec_translation.proofs.Existence.{choice_goes}
use Rattle.spec_translation.proofs.PlainLet.{visit_under-Leaf}
use Rattle.term_tree.specs.Bank.{tree_at, Names, Grows}
use Rattle.term_tree.specs.declared.bank.Id.{Id}
use Rattle.unify_match.specs.declared.bound.Bound.{Bound}
use Rattle.unify_match.specs.Outcome.{Unified, NoUnifier}
use Rattle.unify_match.specs.Seen.{seen, IsReady}
use Rattle.clause_form.specs.Seen.{NameTerms}
use Rattle.clause_form.proofs.Copying.{NameTerms-grows, NameFacts-push}
use Rattle.clause_terms.specs.Conditions.{HasRoomAt}
use Rattle.clause_terms.specs.Fresh.{fresh_of}
use Rattle.clause_terms.specs.Scopes.{Held, scope_at, NamesScope}
use Rattle.clause_terms.proofs.Rows.{room_pattern_arguments}
use Rattle.unified_visits.specs.declared.spans.Span.{Span}
use Rattle.unified_visits.specs.declared.visit.Visit as source
use Rattle.visit_choices.specs.declared.ways.Way.{Way}
use Rattle.visit_choices.specs.declared.ways.Way.TheVariants as ways
use Rattle.process_visits.specs.Forms.{are_large_in}
use Rattle.unified_visits.specs.Spans.{IsSpan}
use Rattle.unified_visits.specs.Visits.{visit_at, IsVisitIn, NamesVisit}
use Rattle.process_visits.specs.Entries.{WithEntry, met_choice, IsEntryWay, EntryGoes}
use Rattle.unified_visits.specs.Solving.{AreSolved, HasBelow}
use Rattle.unified_visits.proofs.Named.{all_below_more, below_parts, below_visit_more, scope_later, hypotheses_later, messages_later, sessions_later, diffs_later, visit_later, visit_named}
use Rattle.unified_visits.proofs.Below.{pattern_below, bound_below, term_in_below}
use Rattle.process_visits.proofs.Happening.{facts_below}
use Rattle.unified_visits.proofs.Bound.{scope_append}
use Rattle.visit_choices.proofs.Solving.{none_solved, solutions_below}
use Rattle.visit_choices.proofs.Choosing.{goes_nowhere, goes_there}
use Rattle.visit_choices.proofs.Joined.{terms_append}

-- New variables of patterns in a row.

abbrev IsRoomTo : ℕ → Fresh → List ℕ → Type 0
IsRoomTo n at numbers = AllByRecursion (λ i. at.base + (i - at.first) < n) numbers

patterns_below : (P : Protocol) (n : ℕ) (scope : Scope) (at : Fresh) → AreBelow n (map (λ b. b.term) scope) → (ps : List Pattern) → IsRoomTo n at (bound_numbers (row_pattern ps)) → AreBelow n (map (pattern_term P scope at) ps)
patterns_below P n scope at below [] room = tt
patterns_below P n scope at below (p ∷ ps) room =
    let parts = subst (λ numbers. IsRoomTo n at numbers) (filter_map-append bound_number (leaves p) (row_leaves (trees ps))) room in
    let first = all_first (λ i. at.base + (i - at.first) < n) (bound_numbers p) (bound_numbers (row_pattern ps)) parts in
    let later = all_second (λ i. at.base + (i - at.first) < n) (bound_numbers p) (bound_numbers (row_pattern ps)) parts in
    (pattern_below P n scope at below p first, patterns_below P n scope at below ps later)

-- a span that begins where its own variables do
own_span : (from : ℕ) (numbers : List ℕ) (span : Span) → IsSpan from numbers span → IsSpan span.at.base numbers span
own_span from numbers span is = subst (λ n. IsSpan n numbers span) (sym is.base) is

pub row_room : (from : ℕ) (ps : List Pattern) (span : Span) → IsSpan from (bound_numbers (row_pattern ps)) span → AllByRecursion (HasRoomAt (fresh_of span.at)) ps
row_room from ps span is =
    let own = own_span from (bound_numbers (row_pattern ps)) span is in
    let few = own.few in
    room_pattern_arguments (fresh_of span.at) (row_pattern ps) calculus.Tuple ps refl
    (all_weaker (λ i. span.at.base + (i - span.at.first) < span.next) (λ i. span.at.base + (i - span.at.first) < 2 ^ 32) (λ i h. omega (arith, h, few)) (bound_numbers (row_pattern ps)) own.room)

-- The visit with the entry.

pub entered : (P : Protocol) (old mid new : List Term) (v scoped made : source.Visit) (span : Span) (table : ℕ) (ps : List Pattern) (ids : List Id) (bound : List Held) → Grows old mid → Grows mid new → Grows old new → IsVisitIn old v
    → IsSpan v.next (bound_numbers (row_pattern ps)) span → NameTerms mid ids (map (pattern_term P (scope_at old v.scope) (fresh_of span.at)) ps) → NamesScope new bound (pattern_scope (fresh_of span.at) (row_pattern ps))
    → scoped ≡ record v { scope = v.scope ++ bound; next = span.next } → made ≡ record scoped { hypotheses = scoped.hypotheses ++ Tab table ids ∷ []; messages = scoped.messages ++ ids }
    → WithEntry P (visit_at old v) table ps new made
entered P old mid new v scoped made span table ps ids bound grows later through known is_span terms names scoped_is made_is =
    let w = visit_at old v in
    let at = fresh_of span.at in
    let us = map (pattern_term P w.scope at) ps in
    let base = is_span.base in
    let own = own_span v.next (bound_numbers (row_pattern ps)) span is_span in
    let parts = below_parts old new v through known in
    let below = below_visit_more v.next span.next w is_span.up parts in
    let entries = NameTerms-grows mid new ids us later terms in
    let entry_below = patterns_below P span.next w.scope at below.scope ps own.room in
    let whole : source.Visit = record v { scope = v.scope ++ bound; hypotheses = v.hypotheses ++ Tab table ids ∷ []; messages = v.messages ++ ids; next = span.next } in
    let same : made ≡ whole = made_is ∙ ap (λ (s : source.Visit). record s { hypotheses = s.hypotheses ++ Tab table ids ∷ []; messages = s.messages ++ ids }) scoped_is in
    record {
      at = at;
      is_fresh = record { is_new = all_below_more v.next span.at.base (omega (arith, base)) (visit_terms w) known.below; from_first = is_span.from_first };
      visit = subst (λ (m : source.Visit). NamesVisit new m (after_entry P w table ps at)) (sym same)
          (visit_named new whole (after_entry P w table ps at)
          (scope_append new v.scope bound w.scope (pattern_scope at (row_pattern ps)) (scope_later old new v through known) names)
          (NameFacts-push new v.hypotheses w.hypotheses (Tab table ids) (Tab table us) (hypotheses_later old new v through known) record { known = entries.known; is = λ i. Tab table (entries.are i) })
          (terms_append new v.messages ids w.messages us (messages_later old new v through known) entries)
          (sessions_later old new v through known) (diffs_later old new v through known) refl
          record {
            scope = subst (λ (l : List Term). AreBelow span.next l) (sym (map-append (λ b. b.term) w.scope (pattern_scope at (row_pattern ps))))
                (all_append (IsBelow span.next) (map (λ b. b.term) w.scope) (map (λ b. b.term) (pattern_scope at (row_pattern ps))) below.scope (bound_below span.next at (leaves (row_pattern ps)) own.room));
            hypotheses = facts_below span.next w.hypotheses (Tab table us) below.hypotheses entry_below;
            messages = all_append (IsBelow span.next) w.messages us below.messages entry_below;
            sessions = below.sessions;
            diffs = below.diffs;
          }
          (let few = is_span.few in omega (arith, few)));
    }

-- The condition.

-- the way that the code tells of the visit that goes on
pub entry_way_is : (new : List Term) (x : Visit) (found : Option source.Visit) (way : Way) → MatchOption found (is_large_visit x ≡ true) (λ made. NamesVisit new made x)
    → MatchOption found (way ≡ ways.Large) (λ made. MatchBool (is_large_visit (visit_at new made)) (way ≡ ways.Large) (way ≡ ways.Visit made)) → IsEntryWay new false (Some x) way
entry_way_is new x None way large is = subst (λ y. IsEntryWay new false (Some x) y) (sym is) (ap (λ b. b || false) large)
entry_way_is new x (Some made) way names is = go (is_large_visit (visit_at new made)) refl is where
  go : (b : Bool) → is_large_visit (visit_at new made) ≡ b → MatchBool b (way ≡ ways.Large) (way ≡ ways.Visit made) → IsEntryWay new false (Some x) way
  go true e h = subst (λ y. IsEntryWay new false (Some x) y) (sym h) (ap (λ b. b || false) (sym (ap is_large_visit names.is) ∙ e))
  go false e h = subst (λ y. IsEntryWay new false (Some x) y) (sym h) (refl, ap Some (sym names.is), e, names.known)

module _ (P : Protocol) (old mid : List Term) (made : source.Visit) (l r : calculus.Term) (first second : Id) (grows : Grows old mid) (known : IsVisitIn old made) (a : Names mid first (term_in P (scope_at old made.scope) l)) (b : Names mid second (term_in P (scope_at old made.scope) r)) (before : List Bound) (unbound : before ≡ []) (ready : IsReady mid before) where
  abbrev left : Term
  left = term_in P (scope_at old made.scope) l

  abbrev right : Term
  right = term_in P (scope_at old made.scope) r

  alone : (s : Subst) → map (bind s) (left ∷ []) ≡ map (bind s) (right ∷ []) → bind s left ≡ bind s right
  alone s rows = cc

  in_bank : (s : Subst) → bind s left ≡ bind s right → bind s (tree_at mid first) ≡ bind s (tree_at mid second)
  in_bank s e = ap (bind s) a.is ∙ (e ∙ sym (ap (bind s) b.is))

  from_bank : (s : Subst) → bind s (tree_at mid first) ≡ bind s (tree_at mid second) → bind s left ≡ bind s right
  from_bank s e = sym (ap (bind s) a.is) ∙ (e ∙ ap (bind s) b.is)

  pub met_nowhere : NoUnifier mid before (tree_at mid first) (tree_at mid second) → GoesOn (met_choice P (visit_at old made) l r) None
  met_nowhere never = goes_nowhere (met_choice P (visit_at old made) l r) (λ s h. never s (((none_solved mid before unbound ready).solutions s).1 refl) (in_bank s (alone s h.0)))

  module _ (pairs : List Bound) (later : IsReady mid pairs) (unified : Unified mid before pairs (tree_at mid first) (tree_at mid second)) where
    met_solved : AreSolved mid pairs (left ∷ []) (right ∷ []) (free_term 0) (free_term 0)
    met_solved = record {
      ready = later;
      solutions = λ s. (
        λ h. (let e = from_bank s ((unified.solutions s).0 h).1 in (ap (λ t. t ∷ []) e, refl)),
        λ k. (unified.solutions s).1 (((none_solved mid before unbound ready).solutions s).1 refl, in_bank s (alone s k.0)),
      );
    }

    pub met_below : HasBelow (resolved (seen mid pairs)) made.next
    met_below =
        let scope = (below_parts old mid made grows known).scope in
        solutions_below mid pairs (left ∷ []) (right ∷ []) (free_term 0) (free_term 0) made.next met_solved (term_in_below P made.next (scope_at old made.scope) scope l, tt) (term_in_below P made.next (scope_at old made.scope) scope r, tt) tt tt

    pub met_there : GoesOn (met_choice P (visit_at old made) l r) (Some (visit_under (resolved (seen mid pairs)) (visit_at mid made)))
    met_there =
        subst (λ (w : Visit). GoesOn (met_choice P (visit_at old made) l r) (Some (visit_under (resolved (seen mid pairs)) w))) (sym (visit_later old mid made grows known).is)
        (goes_there mid pairs (met_choice P (visit_at old made) l r) met_solved)

-- The whole.

-- the terms of the condition are those that have to become one
large_sides : (P : Protocol) (scope : Scope) (condition : Condition) → list_any is_large_term (left_of P scope condition ++ right_of P scope condition) ≡ are_large_in P scope (sides condition)
large_sides P scope None = refl
large_sides P scope (Some (l, r)) = refl

module _ (P : Protocol) (v : Visit) (table : ℕ) (ps : List Pattern) (condition : Condition) (mid : List Term) (made : source.Visit) (entry : WithEntry P v table ps mid made) where
  side_is : (b : Bool) → b ≡ are_large_in P (scope_at mid made.scope) (sides condition) → b ≡ has_large_side (entry_choice P v table ps condition entry.at)
  side_is b is =
      let same : scope_at mid made.scope ≡ (after_entry P v table ps entry.at).scope = ap (λ (w : Visit). w.scope) entry.visit.is in
      is ∙ (ap (λ s. are_large_in P s (sides condition)) same ∙ sym (large_sides P (after_entry P v table ps entry.at).scope condition))

  -- a term of the condition is too large
  pub entry_large : (new : List Term) (b : Bool) → b ≡ are_large_in P (scope_at mid made.scope) (sides condition) → b ≡ true → EntryGoes P v table ps condition new ways.Large
  entry_large new b is large =
      let goes = choice_goes (entry_choice P v table ps condition entry.at) in
      record { large = true; out = goes.0; goes = record { at = entry.at; is_fresh = entry.is_fresh; is_large = sym large ∙ side_is b is; goes_on = goes.1 }; way = refl }

  -- there is none
  pub entry_alone : (b : Bool) → b ≡ are_large_in P (scope_at mid made.scope) (sides condition) → b ≡ false → condition ≡ None → (way : Way) → MatchBool (is_large_visit (visit_at mid made)) (way ≡ ways.Large) (way ≡ ways.Visit made) → EntryGoes P v table ps condition mid way
  entry_alone b is small none way told =
      let w = after_entry P v table ps entry.at in
      let kept : GoesOn (entry_choice P v table ps None entry.at) (Some w) = (Leaf, record { accepted = (refl, refl); most = λ r e. (r, λ x. refl) }, sym (visit_under-Leaf w)) in
      record {
        large = false;
        out = Some w;
        goes = record { at = entry.at; is_fresh = entry.is_fresh; is_large = sym small ∙ side_is b is; goes_on = subst (λ (c : Condition). GoesOn (entry_choice P v table ps c entry.at) (Some w)) (sym none) kept };
        way = entry_way_is mid w (Some made) way entry.visit told;
      }

  -- its two terms are made one, or aren't
  pub entry_met : (new : List Term) (l r : calculus.Term) (b : Bool) → b ≡ are_large_in P (scope_at mid made.scope) (sides condition) → b ≡ false → condition ≡ Some (l, r) → (way : Way)
      → (out : Option Visit) × GoesOn (met_choice P (visit_at mid made) l r) out × IsEntryWay new false out way → EntryGoes P v table ps condition new way
  entry_met new l r b is small some way met =
      let w = after_entry P v table ps entry.at in
      let goes : GoesOn (met_choice P w l r) met.0 = subst (λ (x : Visit). GoesOn (met_choice P x l r) met.0) entry.visit.is met.1 in
      record {
        large = false;
        out = met.0;
        goes = record { at = entry.at; is_fresh = entry.is_fresh; is_large = sym small ∙ side_is b is; goes_on = subst (λ (c : Condition). GoesOn (entry_choice P v table ps c entry.at) met.0) (sym some) goes };
        way = met.2;
      }
