-- Visits under substitutions: composition, what only the variables at hand decide, and visits that differ in names of variables alone.
use Rattle.std.proofs.Common.{◌≡◌, ◌∙◌, ℕ, ◌<◌, not, ◌||◌, List, [], ◌∷◌, ◌++◌, map, refl, ap, sym}
use Rattle.std.specs.Prelude.{flat_map, nat_le}
use Rattle.std.specs.List.{AllByRecursion, list_any}
use Rattle.spec_trees.specs.Tree.{Leaf, bind, after}
use Rattle.spec_trees.proofs.Substitution.{bind-bind}
use Rattle.spec_calculus.specs.Syntax.{Process, Protocol}
use Rattle.spec_calculus.specs.Syntax as calculus
use Rattle.spec_calculus.specs.Bounds.{most_symbols}
use Rattle.spec_calculus.specs.Limits.{terms_at}
use Rattle.spec_terms.specs.Term.{Term, Subst}
use Rattle.spec_clauses.specs.Fact.{Fact, terms_of, fact_under, fact_size}
use Rattle.spec_clauses.specs.Diff.{Diff, diff_variables, diff_under}
use Rattle.spec_clauses.specs.Variables.{leaves, IsBelow, AreBelow}
use Rattle.spec_clauses.specs.Renaming.{AreVariants}
use Rattle.spec_clauses.proofs.Lists.{all_first, all_second, all_weaker, map_same}
use Rattle.spec_clauses.proofs.Diffs.{diff_under-diff_under, diff_under-agree}
use Rattle.spec_clauses.proofs.Facts.{facts_under-facts_under, map_facts-agree, bind-agree_on}
use Rattle.spec_translation.specs.Conversion.{Scope, term_in}
use Rattle.spec_translation.specs.Visit.{Visit, standing_under, visit_under, visit_terms, is_large_term, is_large_visit, evaluates_large, is_public_channel, sent, raw_clause}
use Rattle.spec_translation.proofs.Conversions.{term_in-under, public-back, size-back, fact_size-back, sent-under}

-- substitutions in a row
pub terms_under-terms_under : (s t : Subst) (ts : List Term) → map (bind s) (map (bind t) ts) ≡ map (bind (after s t)) ts
terms_under-terms_under s t [] = refl
terms_under-terms_under s t (u ∷ us) =
    let first = bind-bind s t u in let others = terms_under-terms_under s t us in λ i. first i ∷ others i

pub scope_under-scope_under : (s t : Subst) (scope : Scope) → map (standing_under s) (map (standing_under t) scope) ≡ map (standing_under (after s t)) scope
scope_under-scope_under s t [] = refl
scope_under-scope_under s t (b ∷ bs) =
    let first = bind-bind s t b.term in
    let others = scope_under-scope_under s t bs in λ i. record { name = b.name; term = first i } ∷ others i

pub diffs_under-diffs_under : (s t : Subst) (ds : List Diff) → map (diff_under s) (map (diff_under t) ds) ≡ map (diff_under (after s t)) ds
diffs_under-diffs_under s t [] = refl
diffs_under-diffs_under s t (d ∷ ds) =
    let first = diff_under-diff_under s t d in let others = diffs_under-diffs_under s t ds in λ i. first i ∷ others i

pub visit_under-visit_under : (s t : Subst) (v : Visit) → visit_under s (visit_under t v) ≡ visit_under (after s t) v
visit_under-visit_under s t v =
    let scopes = scope_under-scope_under s t v.scope in
    let facts = facts_under-facts_under s t v.hypotheses in
    let diffs = diffs_under-diffs_under s t v.diffs in
    let messages = terms_under-terms_under s t v.messages in
    let sessions = terms_under-terms_under s t v.sessions in
    λ i. record { scope = scopes i; hypotheses = facts i; diffs = diffs i; messages = messages i; sessions = sessions i; phase = v.phase }

-- Two substitutions with the same terms for the variables below n do the same to what is below n.
module _ (s t : Subst) (n : ℕ) (same : (x : ℕ) → x < n → s x ≡ t x) where
  pub below_agree : (u : Term) → IsBelow n u → bind s u ≡ bind t u
  below_agree u b = bind-agree_on s t u (all_weaker (λ x. x < n) (λ x. s x ≡ t x) same (leaves u) b)

  pub all_agree : (ts : List Term) → AreBelow n ts → AllByRecursion (λ u. bind s u ≡ bind t u) ts
  all_agree ts b = all_weaker (IsBelow n) (λ u. bind s u ≡ bind t u) below_agree ts b

  pub terms_agree : (ts : List Term) → AreBelow n ts → map (bind s) ts ≡ map (bind t) ts
  terms_agree ts b = map_same (bind s) (bind t) ts (all_agree ts b)

  pub scope_agree : (scope : Scope) → AreBelow n (map (λ b. b.term) scope) → map (standing_under s) scope ≡ map (standing_under t) scope
  scope_agree [] b = refl
  scope_agree (d ∷ ds) b =
      let first = below_agree d.term b.0 in
      let others = scope_agree ds b.1 in λ i. record { name = d.name; term = first i } ∷ others i

  pub facts_agree : (hs : List (Fact Term)) → AreBelow n (flat_map terms_of hs) → map (fact_under s) hs ≡ map (fact_under t) hs
  facts_agree hs b = map_facts-agree (bind s) (bind t) hs (all_agree (flat_map terms_of hs) b)

  leaves_agree : (xs : List ℕ) → AreBelow n (map Leaf xs) → AllByRecursion (λ x. s x ≡ t x) xs
  leaves_agree [] b = tt
  leaves_agree (x ∷ xs) b = (same x b.0.0, leaves_agree xs b.1)

  diffs_agree : (ds : List Diff) → AllByRecursion (λ x. s x ≡ t x) (flat_map diff_variables ds) → map (diff_under s) ds ≡ map (diff_under t) ds
  diffs_agree [] a = refl
  diffs_agree (d ∷ ds) a =
      let first = diff_under-agree s t d (all_first (λ x. s x ≡ t x) (diff_variables d) (flat_map diff_variables ds) a) in
      let others = diffs_agree ds (all_second (λ x. s x ≡ t x) (diff_variables d) (flat_map diff_variables ds) a) in λ i. first i ∷ others i

  pub visit_agree : (v : Visit) → AreBelow n (visit_terms v) → visit_under s v ≡ visit_under t v
  visit_agree v b =
      let scope_terms = map (λ b. b.term) v.scope in
      let fact_terms = flat_map terms_of v.hypotheses in
      let own = map Leaf (flat_map diff_variables v.diffs) in
      let behind = all_second (IsBelow n) scope_terms (fact_terms ++ (v.messages ++ (v.sessions ++ own))) b in
      let last = all_second (IsBelow n) fact_terms (v.messages ++ (v.sessions ++ own)) behind in
      let very_last = all_second (IsBelow n) v.messages (v.sessions ++ own) last in
      let scopes = scope_agree v.scope (all_first (IsBelow n) scope_terms (fact_terms ++ (v.messages ++ (v.sessions ++ own))) b) in
      let facts = facts_agree v.hypotheses (all_first (IsBelow n) fact_terms (v.messages ++ (v.sessions ++ own)) behind) in
      let diffs = diffs_agree v.diffs (leaves_agree (flat_map diff_variables v.diffs) (all_second (IsBelow n) v.sessions own very_last)) in
      let messages = terms_agree v.messages (all_first (IsBelow n) v.messages (v.sessions ++ own) last) in
      let sessions = terms_agree v.sessions (all_first (IsBelow n) v.sessions own very_last) in
      λ i. record { scope = scopes i; hypotheses = facts i; diffs = diffs i; messages = messages i; sessions = sessions i; phase = v.phase }

-- a visit is led back: t undoes what s does to it
abbrev pub IsLedBack : Subst → Subst → Visit → Type 0
IsLedBack s t v = visit_under t (visit_under s v) ≡ v

-- visits that are instances of each other
pub record AreAlike (v w : Visit) : Type 0 where
  pub by : Subst
  pub back : Subst
  pub there : visit_under by v ≡ w
  pub again : visit_under back w ≡ v

pub alike_led_back : (v w : Visit) (a : AreAlike v w) → IsLedBack a.by a.back v
alike_led_back v w a = ap (visit_under a.back) a.there ∙ a.again

-- a term in the scope of a visit that is led back is led back
pub term_led_back : (P : Protocol) (s t : Subst) (v : Visit) → IsLedBack s t v → (u : calculus.Term) → bind t (bind s (term_in P v.scope u)) ≡ term_in P v.scope u
term_led_back P s t v e u =
    ap (bind t) (sym (term_in-under P s v.scope u)) ∙ (sym (term_in-under P t (map (standing_under s) v.scope) u) ∙ (λ i. term_in P (e i).scope u))

-- and its channels are public alike
pub channel_public : (P : Protocol) (s t : Subst) (v : Visit) → IsLedBack s t v → (channel : calculus.Term) → is_public_channel P (bind s (term_in P v.scope channel)) ≡ is_public_channel P (term_in P v.scope channel)
channel_public P s t v e channel = public-back P s t (term_in P v.scope channel) (term_led_back P s t v e channel)

-- what is large of a visit that is led back is so of its instance
large_term-back : (s t : Subst) (u : Term) → bind t (bind s u) ≡ u → is_large_term (bind s u) ≡ is_large_term u
large_term-back s t u e = ap (λ n. not (nat_le n most_symbols)) (size-back s t u e)

pub large_terms-back : (s t : Subst) (us : List Term) → map (bind t) (map (bind s) us) ≡ us → list_any is_large_term (map (bind s) us) ≡ list_any is_large_term us
large_terms-back s t [] e = refl
large_terms-back s t (u ∷ us) e =
    let heads : bind t (bind s u) ≡ u = cc in
    let tails : map (bind t) (map (bind s) us) ≡ us = cc in
    let first = large_term-back s t u heads in
    let others = large_terms-back s t us tails in λ i. first i || others i

large_scope-back : (s t : Subst) (scope : Scope) → map (standing_under t) (map (standing_under s) scope) ≡ scope → list_any (λ b. is_large_term b.term) (map (standing_under s) scope) ≡ list_any (λ b. is_large_term b.term) scope
large_scope-back s t [] e = refl
large_scope-back s t (b ∷ bs) e =
    let heads : standing_under t (standing_under s b) ≡ b = cc in
    let tails : map (standing_under t) (map (standing_under s) bs) ≡ bs = cc in
    let first = large_term-back s t b.term (λ i. (heads i).term) in
    let others = large_scope-back s t bs tails in λ i. first i || others i

large_facts-back : (s t : Subst) (hs : List (Fact Term)) → map (fact_under t) (map (fact_under s) hs) ≡ hs → list_any (λ h. not (nat_le (fact_size h) most_symbols)) (map (fact_under s) hs) ≡ list_any (λ h. not (nat_le (fact_size h) most_symbols)) hs
large_facts-back s t [] e = refl
large_facts-back s t (h ∷ hs) e =
    let heads : fact_under t (fact_under s h) ≡ h = cc in
    let tails : map (fact_under t) (map (fact_under s) hs) ≡ hs = cc in
    let first = ap (λ n. not (nat_le n most_symbols)) (fact_size-back s t h heads) in
    let others = large_facts-back s t hs tails in λ i. first i || others i

pub large_visit-back : (s t : Subst) (v : Visit) → IsLedBack s t v → is_large_visit (visit_under s v) ≡ is_large_visit v
large_visit-back s t v e =
    let scopes = large_scope-back s t v.scope (λ i. (e i).scope) in
    let facts = large_facts-back s t v.hypotheses (λ i. (e i).hypotheses) in λ i. scopes i || facts i

any_large-back : (P : Protocol) (s t : Subst) (v : Visit) → IsLedBack s t v → (us : List calculus.Term) → list_any (λ u. is_large_term (term_in P (map (standing_under s) v.scope) u)) us ≡ list_any (λ u. is_large_term (term_in P v.scope u)) us
any_large-back P s t v e [] = refl
any_large-back P s t v e (u ∷ us) =
    let first = ap is_large_term (term_in-under P s v.scope u) ∙ large_term-back s t (term_in P v.scope u) (term_led_back P s t v e u) in
    let others = any_large-back P s t v e us in λ i. first i || others i

pub evaluates_large-back : (P : Protocol) (s t : Subst) (v : Visit) → IsLedBack s t v → (process : Process) → evaluates_large P (visit_under s v) process ≡ evaluates_large P v process
evaluates_large-back P s t v e process = any_large-back P s t v e (terms_at process)

-- a raw clause of a visit that is led back, and of its instance
pub raw_alike : (s t : Subst) (v : Visit) (f g : Fact Term) → IsLedBack s t v → fact_under s f ≡ g → fact_under t g ≡ f → AreVariants (raw_clause v f) (raw_clause (visit_under s v) g)
raw_alike s t v f g e there again = record {
  by = s;
  back = t;
  there = λ i. record { hypotheses = map (fact_under s) v.hypotheses; diffs = map (diff_under s) v.diffs; conclusion = there i };
  again = λ i. record { hypotheses = (e i).hypotheses; diffs = (e i).diffs; conclusion = again i };
}

-- what is sent at a visit, under a substitution that is led back
pub sent_there : (P : Protocol) (s t : Subst) (v : Visit) → IsLedBack s t v → (channel message : calculus.Term) → fact_under s (sent P v.phase (term_in P v.scope channel) (term_in P v.scope message)) ≡ sent P v.phase (term_in P (map (standing_under s) v.scope) channel) (term_in P (map (standing_under s) v.scope) message)
sent_there P s t v e channel message =
    let to = term_in-under P s v.scope channel in
    let what = term_in-under P s v.scope message in
    sent-under P s v.phase (term_in P v.scope channel) (term_in P v.scope message) (channel_public P s t v e channel) ∙ (λ i. sent P v.phase (sym to i) (sym what i))

-- what s leads to is led back by t, where t leads back
pub led_there : (s t : Subst) (v : Visit) → IsLedBack s t v → IsLedBack t s (visit_under s v)
led_there s t v e = ap (visit_under s) e
