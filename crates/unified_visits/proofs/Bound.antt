-- Visits with what a pattern binds.
use Rattle.std.proofs.Common.{◌≡◌, ℕ, ◌+◌, ◌-◌, ◌<◌, ◌≤◌, List, [], ◌∷◌, ◌++◌, map, refl, sym, subst, ◌∙◌, arith}
use Rattle.std.specs.List.{AllByRecursion}
use Rattle.std.proofs.lemmas.List.{map-append}
use Rattle.spec_trees.specs.Leaves.{leaves}
use Rattle.spec_calculus.specs.Syntax.{Pattern, Protocol}
use Rattle.spec_terms.specs.Term.{Term}
use Rattle.spec_clauses.specs.Variables.{IsBelow, AreBelow}
use Rattle.spec_clauses.proofs.Lists.{all_append}
use Rattle.spec_translation.specs.Conversion.{Scope, pattern_term, bound_numbers, pattern_scope}
use Rattle.spec_translation.specs.Visit.{Visit, visit_terms}
use Rattle.spec_translation.specs.Choice.{with_pattern}
use Rattle.term_tree.specs.Bank.{tree_at, Names, Grows}
use Rattle.term_tree.specs.declared.bank.Id.{Id}
use Rattle.term_tree.proofs.BankLaws.{Names-grows}
use Rattle.clause_terms.specs.Scopes.{Held, scope_at, IsScopeIn, NamesScope}
use Rattle.clause_terms.specs.Fresh.{fresh_of}
use Rattle.unified_visits.specs.declared.spans.Span.{Span}
use Rattle.unified_visits.specs.declared.visit.Visit as source
use Rattle.unified_visits.specs.Spans.{IsSpan}
use Rattle.unified_visits.specs.Visits.{visit_at, IsVisitIn, NamesVisit}
use Rattle.unified_visits.specs.Patterns.{WithPattern}
use Rattle.unified_visits.proofs.Named.{below_parts, below_visit_more, all_below_more, scope_later, hypotheses_later, messages_later, sessions_later, diffs_later, visit_named, visit_later}
use Rattle.unified_visits.proofs.Below.{pattern_below, bound_below}

known_append : (all : List Term) (a b : List Held) → IsScopeIn all a → IsScopeIn all b → IsScopeIn all (a ++ b)
known_append all [] b known more = more
known_append all (h ∷ a) b known more = (known.0, known_append all a b known.1 more)

pub scope_append : (all : List Term) (a b : List Held) (s t : Scope) → NamesScope all a s → NamesScope all b t → NamesScope all (a ++ b) (s ++ t)
scope_append all a b s t names more = record {
  known = known_append all a b names.known more.known;
  is = map-append (λ h. record { name = h.name; term = tree_at all h.id }) a b ∙ (λ i. names.is i ++ more.is i);
}

-- the visit with what the pattern binds
pub bound_named : (old now : List Term) (v made : source.Visit) (span : Span) (pattern : Pattern) (bound : List Held) → Grows old now → IsVisitIn old v → v.next ≤ span.at.base → IsSpan span.at.base (bound_numbers pattern) span
    → NamesScope now bound (pattern_scope (fresh_of span.at) pattern) → made ≡ record v { scope = v.scope ++ bound; next = span.next } → NamesVisit now made (with_pattern (visit_at old v) pattern (fresh_of span.at))
bound_named old now v made span pattern bound grows known up is_span names e =
    let higher : v.next ≤ span.next = omega (arith, up, is_span.up) in
    let below = below_visit_more v.next span.next (visit_at old v) higher (below_parts old now v grows known) in
    let whole : source.Visit = record v { scope = v.scope ++ bound; next = span.next } in
    subst (λ (m : source.Visit). NamesVisit now m (with_pattern (visit_at old v) pattern (fresh_of span.at))) (sym e)
    (visit_named now whole (with_pattern (visit_at old v) pattern (fresh_of span.at))
    (scope_append now v.scope bound (visit_at old v).scope (pattern_scope (fresh_of span.at) pattern) (scope_later old now v grows known) names)
    (hypotheses_later old now v grows known) (messages_later old now v grows known) (sessions_later old now v grows known) (diffs_later old now v grows known) refl
    record {
      scope = subst (λ (l : List Term). AreBelow span.next l) (sym (map-append (λ b. b.term) (visit_at old v).scope (pattern_scope (fresh_of span.at) pattern)))
          (all_append (IsBelow span.next) (map (λ b. b.term) (visit_at old v).scope) (map (λ b. b.term) (pattern_scope (fresh_of span.at) pattern)) below.scope (bound_below span.next (fresh_of span.at) (leaves pattern) is_span.room));
      hypotheses = below.hypotheses;
      messages = below.messages;
      sessions = below.sessions;
      diffs = below.diffs;
    }
    (omega (arith, is_span.few)))

-- beside the pattern's term
pub pattern_named : (P : Protocol) (old mid new : List Term) (v made : source.Visit) (from : ℕ) (span : Span) (pattern : Pattern) (term : Id) → Grows old mid → Grows mid new → IsVisitIn old v → v.next ≤ from → IsSpan from (bound_numbers pattern) span
    → Names mid term (pattern_term P (scope_at old v.scope) (fresh_of span.at) pattern) → NamesVisit new made (with_pattern (visit_at mid v) pattern (fresh_of span.at)) → made.next ≡ span.next
    → WithPattern P (visit_at old v) pattern from new made term
pattern_named P old mid new v made from span pattern term grows later known up is_span names visit next =
    let same = (visit_later old mid v grows known).is in
    let parts = below_parts old mid v grows known in
    let higher : v.next ≤ span.next = omega (arith, up, is_span.up) in
    let base : span.at.base ≡ from = is_span.base in
    record {
      at = fresh_of span.at;
      base = base;
      up = subst (λ n. from ≤ n) (sym next) is_span.up;
      is_fresh = record { is_new = all_below_more v.next span.at.base (omega (arith, up, base)) (visit_terms (visit_at old v)) known.below; from_first = is_span.from_first };
      visit = subst (λ (w : Visit). NamesVisit new made (with_pattern w pattern (fresh_of span.at))) same visit;
      term = Names-grows mid new term (pattern_term P (scope_at old v.scope) (fresh_of span.at) pattern) later names;
      below = subst (λ n. IsBelow n (pattern_term P (scope_at old v.scope) (fresh_of span.at) pattern)) (sym next)
          (pattern_below P span.next (scope_at old v.scope) (fresh_of span.at) (all_below_more v.next span.next higher (map (λ b. b.term) (scope_at old v.scope)) parts.scope) pattern
          (subst (λ b. AllByRecursion (λ i. b + (i - span.at.first) < span.next) (bound_numbers pattern)) (sym base) is_span.room));
    }
