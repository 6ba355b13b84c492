-- No feature is greater in a clause with flat hypotheses than in one that it subsumes.
use Rattle.std.proofs.lemmas.Bool.{le-leb}
use Rattle.std.proofs.Common.{◌≡◌, ℕ, ◌+◌, ◌-◌, ◌≤◌, Bool, true, false, not, cond, List, [], ◌∷◌, ◌++◌, map, refl, ap, sym, ◌∙◌, arith}
use Rattle.std.specs.Prelude.{nat_le}
use Rattle.std.specs.List.{list_all}
use Rattle.spec_trees.specs.Tree.{Trees, Leaf, Node, none, more, bind, binds}
use Rattle.spec_trees.proofs.Equality.{and_true}
use Rattle.spec_terms.specs.Term.{Sym, Term, Subst}
use Rattle.spec_clauses.specs.Fact.{Fact, Att, Mess, Tab, Ev, Mev, Bad, Clause, fact_under, total, is_variable_known}
use Rattle.spec_clauses.specs.Flat.{flat, flat_under, is_flat}
use Rattle.spec_clauses.specs.Subsumption.{Subsumes, firm}
use Rattle.spec_clauses.proofs.Firm.{firm_stays}
use Rattle.spec_clauses.proofs.NormKeeps.{total-within}
use Rattle.spec_features.specs.Features.{Predicate, predicate_of, predicate_number, same_predicate, one_if, number_of, symbols, row_symbols, fact_symbols, firm_weight, features_of, are_at_most}
use Rattle.spec_features.specs.Features as features

-- a term has no fewer symbols under a substitution
mutual
  pub symbols_grow : (s : Subst) (t : Term) → symbols t ≤ symbols (bind s t)
  symbols_grow s (Leaf x) = omega arith
  symbols_grow s (Node f args) = omega (arith, row_symbols_grow s args)

  row_symbols_grow : (s : Subst) (ts : Trees ℕ Sym) → row_symbols ts ≤ row_symbols (binds s ts)
  row_symbols_grow s none = omega arith
  row_symbols_grow s (more t ts) = omega (arith, symbols_grow s t, row_symbols_grow s ts)

all_symbols_grow : (s : Subst) (ts : List Term) → total symbols ts ≤ total symbols (map (bind s) ts)
all_symbols_grow s [] = omega arith
all_symbols_grow s (t ∷ ts) = omega (arith, symbols_grow s t, all_symbols_grow s ts)

-- nor has a fact, whose predicate stays
pub fact_symbols_grow : (s : Subst) (f : Fact Term) → fact_symbols f ≤ fact_symbols (fact_under s f)
fact_symbols_grow s (Att k t) = omega (arith, symbols_grow s t)
fact_symbols_grow s (Mess k t u) = omega (arith, symbols_grow s t, symbols_grow s u)
fact_symbols_grow s (Tab n ts) = all_symbols_grow s ts
fact_symbols_grow s (Ev e ts) = all_symbols_grow s ts
fact_symbols_grow s (Mev e ts) = all_symbols_grow s ts
fact_symbols_grow s (Bad ts) = all_symbols_grow s ts

predicate_stays : (s : Subst) (f : Fact Term) → predicate_of (fact_under s f) ≡ predicate_of f
predicate_stays s (Att k t) = refl
predicate_stays s (Mess k t u) = refl
predicate_stays s (Tab n ts) = refl
predicate_stays s (Ev e ts) = refl
predicate_stays s (Mev e ts) = refl
predicate_stays s (Bad ts) = refl

-- what isn't `att` of a variable isn't so under a substitution
firm_under : (s : Subst) (f : Fact Term) → is_variable_known f ≡ false → is_variable_known (fact_under s f) ≡ false
firm_under s (Att k (Leaf x)) h = cc
firm_under s (Att k (Node f args)) h = refl
firm_under s (Mess k t u) h = refl
firm_under s (Tab n ts) h = refl
firm_under s (Ev e ts) h = refl
firm_under s (Mev e ts) h = refl
firm_under s (Bad ts) h = refl

-- A sum over firm facts is one over all, to which `att` of a variable adds nothing.
pub total-firm : (weight : Fact Term → ℕ) (hs : List (Fact Term)) → total weight (firm hs) ≡ total (firm_weight weight) hs
total-firm weight [] = refl
total-firm weight (h ∷ hs) = go (is_variable_known h) (total-firm weight hs)
  where
    go : (b : Bool) → total weight (firm hs) ≡ total (firm_weight weight) hs → total weight (cond (not b) (h ∷ firm hs) (firm hs)) ≡ cond b 0 (weight h) + total (firm_weight weight) hs
    go true e = omega (arith, e)
    go false e = ap (λ n. weight h + n) e

total-append : (g : Fact Term → ℕ) (xs ys : List (Fact Term)) → total g (xs ++ ys) ≡ total g xs + total g ys
total-append g [] ys = omega arith
total-append g (x ∷ xs) ys = omega (arith, total-append g xs ys)

-- Where it grows under substitutions, it is no greater in hypotheses than where their flat is included.
module _ (weight : Fact Term → ℕ) (grows : (s : Subst) (f : Fact Term) → weight f ≤ weight (fact_under s f)) where
  one_grows : (s : Subst) (h : Fact Term) → is_flat h ≡ true → firm_weight weight h ≤ total (firm_weight weight) (flat (fact_under s h))
  one_grows s h flat_fact = go (is_variable_known h) refl
    where
      go : (b : Bool) → is_variable_known h ≡ b → cond b 0 (weight h) ≤ total (firm_weight weight) (flat (fact_under s h))
      go true e = omega arith
      go false e = rw (firm_stays s h flat_fact e) (rw (firm_under s h e) (omega (arith, grows s h)))

  all_grow : (s : Subst) (hs : List (Fact Term)) → list_all is_flat hs ≡ true → total (firm_weight weight) hs ≤ total (firm_weight weight) (flat_under s hs)
  all_grow s [] flats = omega arith
  all_grow s (h ∷ hs) flats =
      let parts = and_true (is_flat h) (list_all is_flat hs) flats in
      omega (arith, one_grows s h parts.0, all_grow s hs parts.1, total-append (firm_weight weight) (flat (fact_under s h)) (flat_under s hs))

  pub firm_totals_grow : (general special : Clause Term) → list_all is_flat general.hypotheses ≡ true → Subsumes general special → total weight (firm general.hypotheses) ≤ total weight (firm special.hypotheses)
  firm_totals_grow general special flats h =
      let included = total-within (firm_weight weight) (flat_under h.by general.hypotheses) special.hypotheses h.within in
      omega (arith, total-firm weight general.hypotheses, total-firm weight special.hypotheses, all_grow h.by general.hypotheses flats, included)

pub numbers_grow : (p : Predicate) (general special : Clause Term) → list_all is_flat general.hypotheses ≡ true → Subsumes general special → number_of p (firm general.hypotheses) ≤ number_of p (firm special.hypotheses)
numbers_grow p general special flats h =
    let stays : (s : Subst) (f : Fact Term) → one_if p f ≤ one_if p (fact_under s f) = λ s f. rw (predicate_stays s f) (omega arith) in
    firm_totals_grow (one_if p) stays general special flats h

pub subsuming_at_most : (general special : Clause Term) → list_all is_flat general.hypotheses ≡ true → Subsumes general special → are_at_most (features_of general) (features_of special) ≡ true
subsuming_at_most general special flats h =
    let d = predicate_number (predicate_of general.conclusion) in
    let e = predicate_number (predicate_of special.conclusion) in
    let same : d ≡ e = ap predicate_number (sym (predicate_stays h.by general.conclusion) ∙ ap predicate_of h.conclusion) in
    let concluded : fact_symbols (fact_under h.by general.conclusion) ≡ fact_symbols special.conclusion = ap fact_symbols h.conclusion in
    let symbols_below : fact_symbols general.conclusion ≤ fact_symbols special.conclusion = omega (arith, fact_symbols_grow h.by general.conclusion, concluded) in
    let below : d ≤ e = omega (arith, same) in
    let above : 4 - d ≤ 4 - e = omega (arith, same) in
    let number : (p : Predicate) → nat_le (number_of p (firm general.hypotheses)) (number_of p (firm special.hypotheses)) ≡ true = λ p. le-leb _ _ (numbers_grow p general special flats h) in
    let messages : number_of features.Mess (firm general.hypotheses) + number_of features.Tab (firm general.hypotheses) ≤ number_of features.Mess (firm special.hypotheses) + number_of features.Tab (firm special.hypotheses) =
    omega (arith, numbers_grow features.Mess general special flats h, numbers_grow features.Tab general special flats h) in
    rw (number features.Att, le-leb _ _ messages, number features.Ev, number features.Mev, le-leb _ _ (firm_totals_grow fact_symbols fact_symbols_grow general special flats h), le-leb _ _ symbols_below, le-leb d e below, le-leb (4 - d) (4 - e) above) refl
