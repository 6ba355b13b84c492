-- What constraints may speak of stays the same where repeated and lonely hypotheses are dropped, and stands among the variables of the
-- clause's facts.
use Rattle.std.proofs.Common.{◌≡◌, ℕ, Bool, true, false, not, ◌&&◌, ◌||◌, cond, nat_eq, List, [], ◌∷◌, ◌++◌, refl, ap, sym, ◌∙◌, subst, inl, inr}
use Rattle.std.specs.Prelude.{flat_map, filter}
use Rattle.std.specs.List.{AllByRecursion, list_any, list_all}
use Rattle.std.proofs.lemmas.Bool.{or_left, or_right}
use Rattle.std.proofs.lemmas.List.Folds.{list_any-append}
use Rattle.spec_trees.specs.Tree.{Leaf, Node}
use Rattle.spec_trees.proofs.Equality.{and_true}
use Rattle.spec_trees.proofs.Occurrence.{or_true}
use Rattle.spec_terms.specs.Term.{Term}
use Rattle.spec_terms.proofs.Replace.{eqb_self}
use Rattle.spec_clauses.specs.Diff.{Diff, diff_variables}
use Rattle.spec_clauses.specs.DiffDecision.{can_be_equal}
use Rattle.spec_clauses.specs.Fact.{Fact, Att, Mess, Tab, Ev, Mev, Bad, Clause, same_fact, is_variable_known}
use Rattle.spec_clauses.specs.Variables.{fact_variables, clause_variables, constrained_variables, firm, firm_variables}
use Rattle.spec_clauses.specs.Selection.{is_selectable, is_solved}
use Rattle.spec_clauses.specs.Norm.{distinct, without_repeats, elsewhere, is_lonely, without_lonely, is_known, is_passed_on, passes_on, is_anchored, is_needed, without_needless}
use Rattle.spec_clauses.proofs.Lists.{all_weaker, all-flat_map, all_of_test, all_each, filter_same}
use Rattle.spec_clauses.proofs.Equality.{same_fact-decides}
use Rattle.spec_clauses.proofs.Distinct.{all-filter_passes, filter-all, any-distinct, all_pass-distinct, nat_eq-decides, cases_same}

-- Where a number stands in a list of some variables and then others, and in one of two lists.
stands-append : (x : ℕ) (xs ys zs : List ℕ) → list_any (nat_eq x) ys ≡ list_any (nat_eq x) zs → list_any (nat_eq x) (xs ++ ys) ≡ list_any (nat_eq x) (xs ++ zs)
stands-append x xs ys zs e = list_any-append (nat_eq x) xs ys ∙ (ap (λ b. list_any (nat_eq x) xs || b) e ∙ sym (list_any-append (nat_eq x) xs zs))

-- Whether a number is a variable of a firm hypothesis is asked of each hypothesis.
abbrev is_firm_in : ℕ → Fact Term → Bool
is_firm_in x h = not (is_variable_known h) && list_any (nat_eq x) (fact_variables h)

stands_firm : (x : ℕ) (hs : List (Fact Term)) → list_any (nat_eq x) (firm_variables hs) ≡ list_any (is_firm_in x) hs
stands_firm x [] = refl
stands_firm x (h ∷ hs) = go (is_variable_known h) (stands_firm x hs) where
  go : (b : Bool) → list_any (nat_eq x) (firm_variables hs) ≡ list_any (is_firm_in x) hs
      → list_any (nat_eq x) (flat_map fact_variables (cond (not b) (h ∷ firm hs) (firm hs))) ≡ ((not b && list_any (nat_eq x) (fact_variables h)) || list_any (is_firm_in x) hs)
  go true others = others
  go false others = list_any-append (nat_eq x) (fact_variables h) (firm_variables hs) ∙ ap (λ b. list_any (nat_eq x) (fact_variables h) || b) others

-- The clauses of two lists of hypotheses with one conclusion, whose tests agree, have the same anchors.
module _ (hs ks : List (Fact Term)) (ds es : List Diff) (f : Fact Term) where
  abbrev one_clause : Clause Term
  one_clause = record { hypotheses = hs; diffs = ds; conclusion = f }

  abbrev other_clause : Clause Term
  other_clause = record { hypotheses = ks; diffs = es; conclusion = f }

  anchored_alike : passes_on one_clause ≡ passes_on other_clause → (x : ℕ) → list_any (nat_eq x) (firm_variables hs) ≡ list_any (nat_eq x) (firm_variables ks) → is_anchored one_clause x ≡ is_anchored other_clause x
  anchored_alike passes x e = go (passes_on one_clause) (passes_on other_clause) passes where
    go : (a b : Bool) → a ≡ b → list_any (nat_eq x) (cond a (firm_variables hs) (elsewhere one_clause)) ≡ list_any (nat_eq x) (cond b (firm_variables ks) (elsewhere other_clause))
    go true true k = e
    go true false k = cc
    go false true k = cc
    go false false k = stands-append x (fact_variables f) (firm_variables hs) (firm_variables ks) e

-- Repeats don't matter.
passed_on-repeats : (hs : List (Fact Term)) (f : Fact Term) → is_passed_on (distinct same_fact hs) f ≡ is_passed_on hs f
passed_on-repeats hs (Att k (Leaf x)) =
    let known = any-distinct same_fact same_fact-decides (is_known x) hs in
    let firmly = stands_firm x (distinct same_fact hs) ∙ (any-distinct same_fact same_fact-decides (is_firm_in x) hs ∙ sym (stands_firm x hs)) in
    λ i. known i && not (firmly i)
passed_on-repeats hs (Att k (Node g args)) = refl
passed_on-repeats hs (Mess k t u) = refl
passed_on-repeats hs (Tab n ts) = refl
passed_on-repeats hs (Ev n ts) = refl
passed_on-repeats hs (Mev n ts) = refl
passed_on-repeats hs (Bad ts) = refl

anchored-repeats : (c : Clause Term) (x : ℕ) → is_anchored (without_repeats c) x ≡ is_anchored c x
anchored-repeats c x =
    let hs = c.hypotheses in
    let solved = all_pass-distinct same_fact same_fact-decides (λ h. not (is_selectable h)) hs in
    let passed = passed_on-repeats hs c.conclusion in
    let firmly = stands_firm x (distinct same_fact hs) ∙ (any-distinct same_fact same_fact-decides (is_firm_in x) hs ∙ sym (stands_firm x hs)) in
    anchored_alike (distinct same_fact hs) hs c.diffs c.diffs c.conclusion (λ i. solved i && passed i) x firmly

-- Nor do lonely hypotheses: they are loose, so the firm ones stay.
lonely_loose : (vs : List ℕ) (h : Fact Term) → is_lonely vs h ≡ true → is_variable_known h ≡ true
lonely_loose vs (Att phase (Leaf x)) e = refl
lonely_loose vs (Att phase (Node f args)) e = cc
lonely_loose vs (Mess phase t u) e = cc
lonely_loose vs (Tab n ts) e = cc
lonely_loose vs (Ev n ts) e = cc
lonely_loose vs (Mev n ts) e = cc
lonely_loose vs (Bad ts) e = cc

abbrev left : List ℕ → List (Fact Term) → List (Fact Term)
left vs hs = filter (λ h. not (is_lonely vs h)) hs

firm-left : (vs : List ℕ) (hs : List (Fact Term)) → firm (left vs hs) ≡ firm hs
firm-left vs [] = refl
firm-left vs (h ∷ hs) = go (is_lonely vs h) refl (left vs hs) (firm-left vs hs) where
  go : (b : Bool) → is_lonely vs h ≡ b → (ks : List (Fact Term)) → firm ks ≡ firm hs → firm (cond (not b) (h ∷ ks) ks) ≡ firm (h ∷ hs)
  go true e ks others = rw (lonely_loose vs h e) others
  go false e ks others = ap (λ gs. cond (not (is_variable_known h)) (h ∷ gs) gs) others

pub elsewhere-left : (c : Clause Term) → elsewhere (without_lonely c) ≡ elsewhere c
elsewhere-left c = ap (λ hs. fact_variables c.conclusion ++ flat_map fact_variables hs) (firm-left (elsewhere c) c.hypotheses)

loose_solved : (h : Fact Term) → is_variable_known h ≡ true → is_selectable h ≡ false
loose_solved (Att phase (Leaf x)) e = refl
loose_solved (Att phase (Node f args)) e = cc
loose_solved (Mess phase t u) e = cc
loose_solved (Tab n ts) e = cc
loose_solved (Ev n ts) e = cc
loose_solved (Mev n ts) e = cc
loose_solved (Bad ts) e = cc

solved-left : (vs : List ℕ) (hs : List (Fact Term)) → is_solved (left vs hs) ≡ is_solved hs
solved-left vs [] = refl
solved-left vs (h ∷ hs) = go (is_lonely vs h) refl (left vs hs) (solved-left vs hs) where
  go : (b : Bool) → is_lonely vs h ≡ b → (ks : List (Fact Term)) → is_solved ks ≡ is_solved hs → is_solved (cond (not b) (h ∷ ks) ks) ≡ is_solved (h ∷ hs)
  go true e ks others = others ∙ ap (λ b. not b && is_solved hs) (sym (loose_solved h (lonely_loose vs h e)))
  go false e ks others = ap (λ b. not (is_selectable h) && b) others

-- `att` of a variable that is firm or concluded isn't lonely
lonely_other : (vs : List ℕ) (x : ℕ) (h : Fact Term) → list_any (nat_eq x) vs ≡ true → is_lonely vs h ≡ true → is_known x h ≡ false
lonely_other vs x (Att phase (Leaf y)) stands e =
    cases_same nat_eq nat_eq-decides x y (λ b. b ≡ false) (λ same. sym e ∙ ap not (ap (λ z. list_any (nat_eq z) vs) (sym same) ∙ stands)) (λ k. refl)
lonely_other vs x (Att phase (Node f args)) stands e = refl
lonely_other vs x (Mess phase t u) stands e = refl
lonely_other vs x (Tab n ts) stands e = refl
lonely_other vs x (Ev n ts) stands e = refl
lonely_other vs x (Mev n ts) stands e = refl
lonely_other vs x (Bad ts) stands e = refl

known-left : (vs : List ℕ) (x : ℕ) (hs : List (Fact Term)) → list_any (nat_eq x) vs ≡ true → list_any (is_known x) (left vs hs) ≡ list_any (is_known x) hs
known-left vs x [] stands = refl
known-left vs x (h ∷ hs) stands = go (is_lonely vs h) refl (left vs hs) (known-left vs x hs stands) where
  go : (b : Bool) → is_lonely vs h ≡ b → (ks : List (Fact Term)) → list_any (is_known x) ks ≡ list_any (is_known x) hs → list_any (is_known x) (cond (not b) (h ∷ ks) ks) ≡ list_any (is_known x) (h ∷ hs)
  go true e ks others = others ∙ ap (λ b. b || list_any (is_known x) hs) (sym (lonely_other vs x h stands e))
  go false e ks others = ap (λ b. is_known x h || b) others

passed_on-left : (vs : List ℕ) (hs : List (Fact Term)) (f : Fact Term) → AllByRecursion (λ x. list_any (nat_eq x) vs ≡ true) (fact_variables f) → is_passed_on (left vs hs) f ≡ is_passed_on hs f
passed_on-left vs hs (Att k (Leaf x)) stand =
    let known = known-left vs x hs stand.0 in
    λ i. known i && not (list_any (nat_eq x) (flat_map fact_variables (firm-left vs hs i)))
passed_on-left vs hs (Att k (Node g args)) stand = refl
passed_on-left vs hs (Mess k t u) stand = refl
passed_on-left vs hs (Tab n ts) stand = refl
passed_on-left vs hs (Ev n ts) stand = refl
passed_on-left vs hs (Mev n ts) stand = refl
passed_on-left vs hs (Bad ts) stand = refl

-- each number of a list stands in it, and in a longer one
stand_first : (xs ys : List ℕ) → AllByRecursion (λ x. list_any (nat_eq x) (xs ++ ys) ≡ true) xs
stand_first [] ys = tt
stand_first (x ∷ xs) ys = (
  or_left (nat_eq x x) (list_any (nat_eq x) (xs ++ ys)) (eqb_self x),
  all_weaker (λ y. list_any (nat_eq y) (xs ++ ys) ≡ true) (λ y. list_any (nat_eq y) (x ∷ xs ++ ys) ≡ true) (λ y e. or_right (nat_eq y x) (list_any (nat_eq y) (xs ++ ys)) e) xs (stand_first xs ys),
)

anchored-left : (c : Clause Term) (x : ℕ) → is_anchored (without_lonely c) x ≡ is_anchored c x
anchored-left c x =
    let hs = c.hypotheses in
    let vs = elsewhere c in
    let solved = solved-left vs hs in
    let passed = passed_on-left vs hs c.conclusion (stand_first (fact_variables c.conclusion) (firm_variables hs)) in
    anchored_alike (left vs hs) hs c.diffs c.diffs c.conclusion (λ i. solved i && passed i) x (ap (λ ks. list_any (nat_eq x) (flat_map fact_variables ks)) (firm-left vs hs))

-- So repeats and lonely hypotheses make no difference to what is needed,
is_needed-few : (c : Clause Term) (d : Diff) → is_needed (without_lonely (without_repeats c)) d ≡ is_needed c d
is_needed-few c d = ap (λ b. can_be_equal d && b) (go (diff_variables d)) where
  go : (xs : List ℕ) → list_all (is_anchored (without_lonely (without_repeats c))) xs ≡ list_all (is_anchored c) xs
  go [] = refl
  go (x ∷ xs) = let first = anchored-left (without_repeats c) x ∙ anchored-repeats c x in let others = go xs in λ i. first i && others i

-- and nothing that is needless is left.
pub few-needed : (c : Clause Term) → without_needless (without_lonely (without_repeats (without_needless c))) ≡ without_lonely (without_repeats (without_needless c))
few-needed c =
    let few = without_lonely (without_repeats (without_needless c)) in
    let same = filter_same (is_needed few) (is_needed c) few.diffs (all_each (λ d. is_needed few d ≡ is_needed c d) (is_needed-few (without_needless c)) few.diffs) in
    let kept = filter-all (is_needed c) few.diffs (all-filter_passes (is_needed c) c.diffs) in
    λ i. record { hypotheses = few.hypotheses; diffs = (same ∙ kept) i; conclusion = few.conclusion }

-- What constraints may speak of are variables of the clause's facts.
firm_stands : (x : ℕ) (hs : List (Fact Term)) → list_any (nat_eq x) (firm_variables hs) ≡ true → list_any (nat_eq x) (flat_map fact_variables hs) ≡ true
firm_stands x [] e = cc
firm_stands x (h ∷ hs) e = go (is_variable_known h) (firm_stands x hs) e where
  both : (list_any (nat_eq x) (fact_variables h) || list_any (nat_eq x) (flat_map fact_variables hs)) ≡ true → list_any (nat_eq x) (flat_map fact_variables (h ∷ hs)) ≡ true
  both k = list_any-append (nat_eq x) (fact_variables h) (flat_map fact_variables hs) ∙ k

  go : (b : Bool) → (list_any (nat_eq x) (firm_variables hs) ≡ true → list_any (nat_eq x) (flat_map fact_variables hs) ≡ true)
      → list_any (nat_eq x) (flat_map fact_variables (cond (not b) (h ∷ firm hs) (firm hs))) ≡ true → list_any (nat_eq x) (flat_map fact_variables (h ∷ hs)) ≡ true
  go true later k = both (or_right (list_any (nat_eq x) (fact_variables h)) (list_any (nat_eq x) (flat_map fact_variables hs)) (later k))
  go false later k = elim (or_true (list_any (nat_eq x) (fact_variables h)) (list_any (nat_eq x) (firm_variables hs)) (sym (list_any-append (nat_eq x) (fact_variables h) (firm_variables hs)) ∙ k)) as (λ _. list_any (nat_eq x) (flat_map fact_variables (h ∷ hs)) ≡ true) [
    | inl here ↦ both (or_left (list_any (nat_eq x) (fact_variables h)) (list_any (nat_eq x) (flat_map fact_variables hs)) here)
    | inr below ↦ both (or_right (list_any (nat_eq x) (fact_variables h)) (list_any (nat_eq x) (flat_map fact_variables hs)) (later below))
  ]

anchor_elsewhere : (c : Clause Term) (x : ℕ) → is_anchored c x ≡ true → list_any (nat_eq x) (elsewhere c) ≡ true
anchor_elsewhere c x e = go (passes_on c) e where
  go : (b : Bool) → list_any (nat_eq x) (cond b (firm_variables c.hypotheses) (elsewhere c)) ≡ true → list_any (nat_eq x) (elsewhere c) ≡ true
  go true k = list_any-append (nat_eq x) (fact_variables c.conclusion) (firm_variables c.hypotheses) ∙ or_right (list_any (nat_eq x) (fact_variables c.conclusion)) (list_any (nat_eq x) (firm_variables c.hypotheses)) k
  go false k = k

elsewhere_stands : (c : Clause Term) (x : ℕ) → list_any (nat_eq x) (elsewhere c) ≡ true → list_any (nat_eq x) (clause_variables c) ≡ true
elsewhere_stands c x e =
    let concluded = fact_variables c.conclusion in
    let supposed = flat_map fact_variables c.hypotheses in
    elim (or_true (list_any (nat_eq x) concluded) (list_any (nat_eq x) (firm_variables c.hypotheses)) (sym (list_any-append (nat_eq x) concluded (firm_variables c.hypotheses)) ∙ e)) as (λ _. list_any (nat_eq x) (clause_variables c) ≡ true) [
      | inl here ↦ list_any-append (nat_eq x) concluded supposed ∙ or_left (list_any (nat_eq x) concluded) (list_any (nat_eq x) supposed) here
      | inr below ↦ list_any-append (nat_eq x) concluded supposed ∙ or_right (list_any (nat_eq x) concluded) (list_any (nat_eq x) supposed) (firm_stands x c.hypotheses below)
    ]

-- what is said of each variable of needed constraints
needed_all : (c : Clause Term) (P : ℕ → Type 0) → ((x : ℕ) → is_anchored c x ≡ true → P x) → (ds : List Diff) → AllByRecursion (λ d. is_needed c d ≡ true) ds → AllByRecursion P (flat_map diff_variables ds)
needed_all c P gives ds a =
    all-flat_map P diff_variables ds (all_weaker (λ d. is_needed c d ≡ true) (λ d. AllByRecursion P (diff_variables d)) each ds a) where
      each : (d : Diff) → is_needed c d ≡ true → AllByRecursion P (diff_variables d)
      each d e = all_weaker (λ x. is_anchored c x ≡ true) P gives (diff_variables d) (all_of_test (is_anchored c) (diff_variables d) (and_true (can_be_equal d) (list_all (is_anchored c) (diff_variables d)) e).1)

needed : (c : Clause Term) → without_needless c ≡ c → AllByRecursion (λ d. is_needed c d ≡ true) c.diffs
needed c e = subst (AllByRecursion (λ d. is_needed c d ≡ true)) (ap (λ d. d.diffs) e) (all-filter_passes (is_needed c) c.diffs)

-- The variables of the constraints that are left are such as they may speak of,
pub all_anchored : (c : Clause Term) → without_needless c ≡ c → AllByRecursion (λ x. is_anchored c x ≡ true) (constrained_variables c)
all_anchored c e = needed_all c (λ x. is_anchored c x ≡ true) (λ x k. k) c.diffs (needed c e)

-- and so they stand elsewhere than in `att` of a variable alone, and in the clause's facts.
pub constrained_elsewhere : (c : Clause Term) → without_needless c ≡ c → AllByRecursion (λ x. list_any (nat_eq x) (elsewhere c) ≡ true) (constrained_variables c)
constrained_elsewhere c e = needed_all c (λ x. list_any (nat_eq x) (elsewhere c) ≡ true) (anchor_elsewhere c) c.diffs (needed c e)

pub constrained_stand : (c : Clause Term) → without_needless c ≡ c → AllByRecursion (λ x. list_any (nat_eq x) (clause_variables c) ≡ true) (constrained_variables c)
constrained_stand c e = needed_all c (λ x. list_any (nat_eq x) (clause_variables c) ≡ true) (λ x k. elsewhere_stands c x (anchor_elsewhere c x k)) c.diffs (needed c e)
