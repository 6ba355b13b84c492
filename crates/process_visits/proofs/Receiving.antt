-- Visits with what a pattern binds, and the visit below an input.
use Rattle.std.proofs.Common.{◌≡◌, ℕ, Bool, true, false, ◌||◌, cond, List, [], ◌∷◌, ◌++◌, refl, ap, sym, subst, ◌∙◌}
use Rattle.spec_calculus.specs.Syntax.{Pattern, Protocol}
use Rattle.spec_calculus.specs.Syntax as calculus
use Rattle.spec_calculus.specs.Limits.{compared}
use Rattle.spec_terms.specs.Term.{Term}
use Rattle.spec_clauses.specs.Fact.{Fact, Att, Mess, terms_of}
use Rattle.spec_clauses.specs.Variables.{IsBelow, AreBelow}
use Rattle.spec_clauses.proofs.Lists.{all_append}
use Rattle.spec_translation.specs.Conversion.{term_in, Fresh, pattern_term}
use Rattle.spec_translation.specs.Visit.{Visit, visit_terms, is_large_term, is_large_visit, is_public_channel, sent, IsFresh, after_input}
use Rattle.spec_translation.specs.Choice.{with_pattern}
use Rattle.term_tree.specs.Bank.{tree_at, Names, Grows}
use Rattle.term_tree.specs.declared.bank.Id.{Id}
use Rattle.term_tree.proofs.BankLaws.{Names-grows}
use Rattle.clause_form.specs.Seen.{NamesFact}
use Rattle.clause_form.proofs.Copying.{NameTerms-push, NameFacts-push}
use Rattle.clause_terms.specs.Scopes.{scope_at}
use Rattle.unified_visits.specs.declared.visit.Visit as source
use Rattle.unified_visits.specs.Visits.{visit_at, IsVisitIn, NamesVisit}
use Rattle.process_visits.specs.Forms.{are_large_in, IsLargeInput, Receives}
use Rattle.process_visits.specs.Forms as forms
use Rattle.unified_visits.specs.Patterns.{WithPattern}
use Rattle.unified_visits.proofs.Named.{below_more, below_parts, visit_named, visit_later, parted}
use Rattle.unified_visits.proofs.Below.{term_in_below}
use Rattle.process_visits.proofs.Happening.{facts_below}

-- the fact that a message was sent is below a number where channel and message are
sent_below : (P : Protocol) (n phase : ℕ) (channel message : Term) → IsBelow n channel → IsBelow n message → AreBelow n (terms_of (sent P phase channel message))
sent_below P n phase channel message b c = go (is_public_channel P channel) where
  go : (t : Bool) → AreBelow n (terms_of (cond t (Att phase message) (Mess phase channel message)))
  go true = (c, tt)
  go false = (b, (c, tt))

-- the visit below an input, from the one with what the pattern binds
module _ (P : Protocol) (v : Visit) (c : calculus.Term) (pattern : Pattern) (from : ℕ) (new : List Term) (w made : source.Visit) (channel message : Id) (fact : Fact Id) where
  received_from : (bound : WithPattern P v pattern from new w message) → IsBelow from (term_in P v.scope c) → Names new channel (term_in P v.scope c) → NamesFact new fact (sent P w.phase (tree_at new channel) (tree_at new message))
      → made ≡ record w { hypotheses = w.hypotheses ++ fact ∷ []; messages = w.messages ++ message ∷ [] } → (at : Fresh) × IsFresh v pattern at × NamesVisit new made (after_input P v c pattern at)
  received_from bound below names sent_is e =
      let at = bound.at in
      let t = pattern_term P v.scope at pattern in
      let is = bound.visit.is in
      let known = bound.visit.known in
      let parts = parted w.next (with_pattern v pattern at) (subst (λ (x : Visit). AreBelow w.next (visit_terms x)) is known.below) in
      let fact_is : NamesFact new fact (sent P v.phase (term_in P v.scope c) t) = subst (λ f. NamesFact new fact f) (λ i. sent P (is i).phase (names.is i) (bound.term.is i)) sent_is in
      let whole : source.Visit = record w { hypotheses = w.hypotheses ++ fact ∷ []; messages = w.messages ++ message ∷ [] } in
      let here : NamesVisit new whole (after_input P v c pattern at) = visit_named new whole (after_input P v c pattern at)
      record { known = known.scope; is = λ i. (is i).scope }
      (NameFacts-push new w.hypotheses v.hypotheses fact (sent P v.phase (term_in P v.scope c) t) record { known = known.hypotheses; are = λ i. (is i).hypotheses } fact_is)
      (NameTerms-push new w.messages v.messages message t record { known = known.messages; are = λ i. (is i).messages } bound.term)
      record { known = known.sessions; are = λ i. (is i).sessions } record { known = known.diffs; are = λ i. (is i).diffs } (λ i. (is i).phase)
      record {
        scope = parts.scope;
        hypotheses = facts_below w.next v.hypotheses (sent P v.phase (term_in P v.scope c) t) parts.hypotheses (sent_below P w.next v.phase (term_in P v.scope c) t (below_more from w.next bound.up (term_in P v.scope c) below) bound.below);
        messages = all_append (IsBelow w.next) v.messages (t ∷ []) parts.messages (bound.below, tt);
        sessions = parts.sessions;
        diffs = parts.diffs;
      }
      known.room in
      (at, bound.is_fresh, subst (λ (m : source.Visit). NamesVisit new m (after_input P v c pattern at)) (sym e) here)

pub received_named : (P : Protocol) (old mid new : List Term) (v w made : source.Visit) (c : calculus.Term) (pattern : Pattern) (channel message : Id) (fact : Fact Id) → Grows old mid → Grows mid new → IsVisitIn old v
    → WithPattern P (visit_at mid v) pattern v.next new w message → Names mid channel (term_in P (scope_at old v.scope) c) → NamesFact new fact (sent P w.phase (tree_at new channel) (tree_at new message))
    → made ≡ record w { hypotheses = w.hypotheses ++ fact ∷ []; messages = w.messages ++ message ∷ [] } → (at : Fresh) × IsFresh (visit_at old v) pattern at × NamesVisit new made (after_input P (visit_at old v) c pattern at)
received_named P old mid new v w made c pattern channel message fact grows later known bound names sent_is e =
    let same = (visit_later old mid v grows known).is in
    received_from P (visit_at old v) c pattern v.next new w made channel message fact (subst (λ (x : Visit). WithPattern P x pattern v.next new w message) same bound)
    (term_in_below P v.next (scope_at old v.scope) (below_parts old mid v grows known).scope c) (Names-grows mid new channel (term_in P (scope_at old v.scope) c) later names) sent_is e

-- the answers of a visit of an input
module _ (P : Protocol) (v : Visit) (c : calculus.Term) (pattern : Pattern) where
  or_first : (a b : Bool) → a ≡ true → (a || b) ≡ true
  or_first a b e = ap (λ x. x || b) e

  or_second : (a b : Bool) → b ≡ true → (a || b) ≡ true
  or_second true b e = refl
  or_second false b e = e

  pub channel_large : is_large_term (term_in P v.scope c) ≡ true → IsLargeInput P v c pattern
  channel_large e = forms.evaluated (or_first (is_large_term (term_in P v.scope c)) (are_large_in P v.scope (compared pattern)) e)

  pub compared_large : are_large_in P v.scope (compared pattern) ≡ true → IsLargeInput P v c pattern
  compared_large e = forms.evaluated (or_second (is_large_term (term_in P v.scope c)) (are_large_in P v.scope (compared pattern)) e)

  small_both : is_large_term (term_in P v.scope c) ≡ false → are_large_in P v.scope (compared pattern) ≡ false → are_large_in P v.scope (c ∷ compared pattern) ≡ false
  small_both e f = ap (λ b. b || are_large_in P v.scope (compared pattern)) e ∙ f

  pub visit_large : (all : List Term) (made : source.Visit) → is_large_term (term_in P v.scope c) ≡ false → are_large_in P v.scope (compared pattern) ≡ false → ((at : Fresh) × IsFresh v pattern at × NamesVisit all made (after_input P v c pattern at))
      → is_large_visit (visit_at all made) ≡ true → IsLargeInput P v c pattern
  visit_large all made e f named large = forms.received (small_both e f) named.0 named.1 (sym (ap is_large_visit named.2.is) ∙ large)

  pub visit_small : (all : List Term) (made : source.Visit) → is_large_term (term_in P v.scope c) ≡ false → are_large_in P v.scope (compared pattern) ≡ false → ((at : Fresh) × IsFresh v pattern at × NamesVisit all made (after_input P v c pattern at))
      → is_large_visit (visit_at all made) ≡ false → Receives P v c pattern all made
  visit_small all made e f named small = record { small = small_both e f; at = named.0; is_fresh = named.1; is_small = sym (ap is_large_visit named.2.is) ∙ small; names = named.2 }
