-- A renaming that has a way back doesn't change the norm.
use Rattle.std.proofs.Common.{◌≡◌, ℕ, Bool, true, false, not, ◌&&◌, ◌||◌, cond, nat_eq, Some, None, List, [], ◌∷◌, ◌++◌, map, refl, ap, sym, ◌∙◌}
use Rattle.std.specs.Prelude.{filter, flat_map}
use Rattle.std.specs.List.{AllByRecursion, list_any, list_all}
use Rattle.std.proofs.lemmas.List.{map-append}
use Rattle.spec_trees.specs.Tree.{Leaf, Node, after}
use Rattle.spec_terms.specs.Term.{Term}
use Rattle.spec_clauses.specs.Fact.{Fact, Att, Mess, Tab, Ev, Mev, Bad, Clause, fact_under, clause_under, same_fact, is_variable_known, phase_of}
use Rattle.spec_clauses.specs.Variables.{fact_variables, clause_variables, constrained_variables, firm, firm_variables}
use Rattle.spec_clauses.specs.Diff.{Diff, diff_under, diff_variables}
use Rattle.spec_clauses.specs.DiffDecision.{can_be_equal, is_never_met}
use Rattle.spec_clauses.specs.Flat.{is_flat}
use Rattle.spec_clauses.specs.Selection.{is_selectable, is_solved}
use Rattle.spec_clauses.specs.Norm.{distinct, place_of, numbering, without_repeats, is_tautology, elsewhere, is_lonely, without_lonely, is_passed_on, passes_on, anchors, is_anchored, is_needed, without_needless, is_void, is_general, everything_known, generalized, tidied, numbered_anew, norm}
use Rattle.spec_clauses.specs.Renaming.{renaming}
use Rattle.spec_clauses.proofs.Lists.{all_append, all_filter, all_weaker, all-flat_map, filter_same, filter-map, any_same, all_same}
use Rattle.spec_clauses.proofs.Facts.{clause_under-agree, clause_under-clause_under}
use Rattle.spec_clauses.proofs.Renaming.{IsLedBack, nat_eq-renamed, stands-renamed, fact_variables-renamed, facts_variables-renamed, clause_variables-renamed, all_distinct, same_fact-renamed, place_of-renamed, variables_distinct-renamed, is_among-renamed, facts_distinct-renamed, is_lonely-renamed, any_known-renamed}
use Rattle.spec_clauses.proofs.DiffNumbering.{own-renamed}
use Rattle.spec_clauses.proofs.DiffRenaming.{can_be_equal-renamed, is_never_met-renamed}
use Rattle.spec_clauses.proofs.ClauseRenaming.{IsDiffLedBack, IsClauseLedBack, variables_back, constrained_back}

-- Tests of a fact's outer form have the same answer.
module _ (r : ℕ → ℕ) where
  pub is_selectable-renamed : (h : Fact Term) → is_selectable (fact_under (renaming r) h) ≡ is_selectable h
  is_selectable-renamed (Att phase (Leaf x)) = refl
  is_selectable-renamed (Att phase (Node f args)) = refl
  is_selectable-renamed (Mess phase t u) = refl
  is_selectable-renamed (Tab e ts) = refl
  is_selectable-renamed (Ev e ts) = refl
  is_selectable-renamed (Mev e ts) = refl
  is_selectable-renamed (Bad ts) = refl

  pub is_solved-renamed : (hs : List (Fact Term)) → is_solved (map (fact_under (renaming r)) hs) ≡ is_solved hs
  is_solved-renamed [] = refl
  is_solved-renamed (h ∷ hs) = cc (is_selectable-renamed h, is_solved-renamed hs)

  pub is_variable_known-renamed : (h : Fact Term) → is_variable_known (fact_under (renaming r) h) ≡ is_variable_known h
  is_variable_known-renamed (Att phase (Leaf x)) = refl
  is_variable_known-renamed (Att phase (Node f args)) = refl
  is_variable_known-renamed (Mess phase t u) = refl
  is_variable_known-renamed (Tab e ts) = refl
  is_variable_known-renamed (Ev e ts) = refl
  is_variable_known-renamed (Mev e ts) = refl
  is_variable_known-renamed (Bad ts) = refl

  pub is_flat-renamed : (h : Fact Term) → is_flat (fact_under (renaming r) h) ≡ is_flat h
  is_flat-renamed (Att phase (Leaf x)) = refl
  is_flat-renamed (Att phase (Node f args)) = refl
  is_flat-renamed (Mess phase t u) = refl
  is_flat-renamed (Tab e ts) = refl
  is_flat-renamed (Ev e ts) = refl
  is_flat-renamed (Mev e ts) = refl
  is_flat-renamed (Bad ts) = refl

  pub phase_of-renamed : (h : Fact Term) → phase_of (fact_under (renaming r) h) ≡ phase_of h
  phase_of-renamed (Att phase t) = refl
  phase_of-renamed (Mess phase t u) = refl
  phase_of-renamed (Tab n ts) = refl
  phase_of-renamed (Ev e ts) = refl
  phase_of-renamed (Mev e ts) = refl
  phase_of-renamed (Bad ts) = refl

  -- so the firm hypotheses are the renamed ones
  firm-renamed : (hs : List (Fact Term)) → firm (map (fact_under (renaming r)) hs) ≡ map (fact_under (renaming r)) (firm hs)
  firm-renamed hs = filter-map (fact_under (renaming r)) (λ h. not (is_variable_known h)) hs ∙ ap (map (fact_under (renaming r))) (filter_same (λ h. not (is_variable_known (fact_under (renaming r) h))) (λ h. not (is_variable_known h)) hs (same hs)) where
    same : (ks : List (Fact Term)) → AllByRecursion (λ h. not (is_variable_known (fact_under (renaming r) h)) ≡ not (is_variable_known h)) ks
    same [] = tt
    same (k ∷ ks) = (ap not (is_variable_known-renamed k), same ks)

  pub firm_variables-renamed : (hs : List (Fact Term)) → firm_variables (map (fact_under (renaming r)) hs) ≡ map r (firm_variables hs)
  firm_variables-renamed hs = ap (flat_map fact_variables) (firm-renamed hs) ∙ facts_variables-renamed r (firm hs)

  elsewhere-renamed : (c : Clause Term) → elsewhere (clause_under (renaming r) c) ≡ map r (elsewhere c)
  elsewhere-renamed c = (λ i. fact_variables-renamed r c.conclusion i ++ firm_variables-renamed c.hypotheses i) ∙ sym (map-append r (fact_variables c.conclusion) (firm_variables c.hypotheses))

-- q leads back from r.
module _ (q r : ℕ → ℕ) where
  firm_back : (hs : List (Fact Term)) → AllByRecursion (IsLedBack q r) hs → AllByRecursion (λ x. q (r x) ≡ x) (firm_variables hs)
  firm_back hs a = all-flat_map (λ x. q (r x) ≡ x) fact_variables (firm hs) (all_filter (IsLedBack q r) (λ h. not (is_variable_known h)) hs a)

  elsewhere_back : (c : Clause Term) → IsClauseLedBack q r c → AllByRecursion (λ x. q (r x) ≡ x) (elsewhere c)
  elsewhere_back c a = all_append (λ x. q (r x) ≡ x) (fact_variables c.conclusion) (firm_variables c.hypotheses) a.facts.0 (firm_back c.hypotheses a.facts.1)

  is_passed_on-renamed : (hs : List (Fact Term)) (h : Fact Term) → AllByRecursion (IsLedBack q r) hs → IsLedBack q r h → is_passed_on (map (fact_under (renaming r)) hs) (fact_under (renaming r) h) ≡ is_passed_on hs h
  is_passed_on-renamed hs (Att phase (Leaf x)) a b =
      let known = any_known-renamed q r x hs b.0 a in
      let firmly = ap (list_any (nat_eq (r x))) (firm_variables-renamed r hs) ∙ stands-renamed q r x (firm_variables hs) b.0 (firm_back hs a) in
      λ i. known i && not (firmly i)
  is_passed_on-renamed hs (Att phase (Node f args)) a b = refl
  is_passed_on-renamed hs (Mess phase t u) a b = refl
  is_passed_on-renamed hs (Tab n ts) a b = refl
  is_passed_on-renamed hs (Ev e ts) a b = refl
  is_passed_on-renamed hs (Mev e ts) a b = refl
  is_passed_on-renamed hs (Bad ts) a b = refl

  -- What a constraint may speak of is renamed, and so are the constraints that are kept.
  passes_on-renamed : (c : Clause Term) → IsClauseLedBack q r c → passes_on (clause_under (renaming r) c) ≡ passes_on c
  passes_on-renamed c a =
      let solved = is_solved-renamed r c.hypotheses in
      let passed = is_passed_on-renamed c.hypotheses c.conclusion a.facts.1 a.facts.0 in
      λ i. solved i && passed i

  anchors-renamed : (c : Clause Term) → IsClauseLedBack q r c → anchors (clause_under (renaming r) c) ≡ map r (anchors c)
  anchors-renamed c a = (λ i. cond (passes_on-renamed c a i) (firm_variables-renamed r c.hypotheses i) (elsewhere-renamed r c i)) ∙ go (passes_on c) where
    go : (b : Bool) → cond b (map r (firm_variables c.hypotheses)) (map r (elsewhere c)) ≡ map r (cond b (firm_variables c.hypotheses) (elsewhere c))
    go true = refl
    go false = refl

  anchors_back : (c : Clause Term) → IsClauseLedBack q r c → AllByRecursion (λ x. q (r x) ≡ x) (anchors c)
  anchors_back c a = elim (passes_on c) as (λ b. AllByRecursion (λ x. q (r x) ≡ x) (cond b (firm_variables c.hypotheses) (elsewhere c))) [
    | true ↦ firm_back c.hypotheses a.facts.1
    | false ↦ elsewhere_back c a
  ]

  is_needed-renamed : (c : Clause Term) → IsClauseLedBack q r c → (d : Diff) → IsDiffLedBack q r d → is_needed (clause_under (renaming r) c) (diff_under (renaming r) d) ≡ is_needed c d
  is_needed-renamed c a d b =
      let xs = anchors c in
      let equal = can_be_equal-renamed q r d b in
      let tests = all_weaker (λ x. q (r x) ≡ x) (λ x. list_any (nat_eq (r x)) (map r xs) ≡ list_any (nat_eq x) xs) (λ x e. stands-renamed q r x xs e (anchors_back c a)) (diff_variables d) b in
      let anchored = ap (list_all (λ x. list_any (nat_eq x) (map r xs))) (own-renamed r d) ∙ all_same r (λ x. list_any (nat_eq x) (map r xs)) (is_anchored c) (diff_variables d) tests in
      (λ i. equal i && list_all (λ x. list_any (nat_eq x) (anchors-renamed c a i)) (diff_variables (diff_under (renaming r) d))) ∙ ap (λ b. can_be_equal d && b) anchored

  pub without_needless-renamed : (c : Clause Term) → IsClauseLedBack q r c → without_needless (clause_under (renaming r) c) ≡ clause_under (renaming r) (without_needless c)
  without_needless-renamed c a =
      let test = is_needed (clause_under (renaming r) c) in
      let same = all_weaker (IsDiffLedBack q r) (λ d. test (diff_under (renaming r) d) ≡ is_needed c d) (is_needed-renamed c a) c.diffs a.diffs in
      let kept = filter-map (diff_under (renaming r)) test c.diffs ∙ ap (map (diff_under (renaming r))) (filter_same (λ d. test (diff_under (renaming r) d)) (is_needed c) c.diffs same) in
      λ i. record { hypotheses = map (fact_under (renaming r)) c.hypotheses; diffs = kept i; conclusion = fact_under (renaming r) c.conclusion }

  pub without_needless-back : (c : Clause Term) → IsClauseLedBack q r c → IsClauseLedBack q r (without_needless c)
  without_needless-back c a = record { facts = a.facts; diffs = all_filter (IsDiffLedBack q r) (is_needed c) c.diffs a.diffs }

  pub is_void-renamed : (c : Clause Term) → IsClauseLedBack q r c → is_void (clause_under (renaming r) c) ≡ is_void c
  is_void-renamed c a = any_same (diff_under (renaming r)) is_never_met is_never_met c.diffs (all_weaker (IsDiffLedBack q r) (λ d. is_never_met (diff_under (renaming r) d) ≡ is_never_met d) (is_never_met-renamed q r) c.diffs a.diffs)

  pub without_repeats-renamed : (c : Clause Term) → IsClauseLedBack q r c → without_repeats (clause_under (renaming r) c) ≡ clause_under (renaming r) (without_repeats c)
  without_repeats-renamed c a = λ i. record { hypotheses = facts_distinct-renamed q r c.hypotheses a.facts.1 i; diffs = map (diff_under (renaming r)) c.diffs; conclusion = fact_under (renaming r) c.conclusion }

  pub without_repeats-back : (c : Clause Term) → IsClauseLedBack q r c → IsClauseLedBack q r (without_repeats c)
  without_repeats-back c a = record { facts = (a.facts.0, all_distinct same_fact same_fact (fact_under (renaming r)) (IsLedBack q r) (same_fact-renamed q r) c.hypotheses a.facts.1); diffs = a.diffs }

  pub without_lonely-renamed : (c : Clause Term) → IsClauseLedBack q r c → without_lonely (clause_under (renaming r) c) ≡ clause_under (renaming r) (without_lonely c)
  without_lonely-renamed c a =
      let xs = elsewhere c in
      let hs = c.hypotheses in
      let variables = ap (λ ys. filter (λ h. not (is_lonely ys h)) (map (fact_under (renaming r)) hs)) (elsewhere-renamed r c) in
      let same = all_weaker (IsLedBack q r) (λ h. not (is_lonely (map r xs) (fact_under (renaming r) h)) ≡ not (is_lonely xs h)) (λ h b. ap not (is_lonely-renamed q r xs h (elsewhere_back c a) b)) hs a.facts.1 in
      let kept = filter-map (fact_under (renaming r)) (λ h. not (is_lonely (map r xs) h)) hs
      ∙ ap (map (fact_under (renaming r))) (filter_same (λ h. not (is_lonely (map r xs) (fact_under (renaming r) h))) (λ h. not (is_lonely xs h)) hs same) in
      λ i. record { hypotheses = (variables ∙ kept) i; diffs = map (diff_under (renaming r)) c.diffs; conclusion = fact_under (renaming r) c.conclusion }

  pub without_lonely-back : (c : Clause Term) → IsClauseLedBack q r c → IsClauseLedBack q r (without_lonely c)
  without_lonely-back c a = record { facts = (a.facts.0, all_filter (IsLedBack q r) (λ h. not (is_lonely (elsewhere c) h)) c.hypotheses a.facts.1); diffs = a.diffs }

  pub numbered-renamed : (c : Clause Term) → IsClauseLedBack q r c → numbered_anew (clause_under (renaming r) c) ≡ numbered_anew c
  numbered-renamed c a =
      let xs = clause_variables c in
      let back = variables_back q r c a in
      let order = variables_distinct-renamed q r xs back in
      let kept = all_distinct nat_eq nat_eq r (λ x. q (r x) ≡ x) (λ x y b d. nat_eq-renamed q r x y b d) xs back in
      let place : (x : ℕ) → q (r x) ≡ x → after (numbering (map r xs)) (renaming r) x ≡ numbering xs x =
      (λ x b. ap (λ ys. Leaf (place_of (r x) ys)) order ∙ ap Leaf (place_of-renamed q r x (distinct nat_eq xs) b kept)) in
      let places = all_weaker (λ x. q (r x) ≡ x) (λ x. after (numbering (map r xs)) (renaming r) x ≡ numbering xs x) place in
      ap tidied (ap (λ ys. clause_under (numbering ys) (clause_under (renaming r) c)) (clause_variables-renamed r c)
      ∙ (clause_under-clause_under (numbering (map r xs)) (renaming r) c
      ∙ clause_under-agree (after (numbering (map r xs)) (renaming r)) (numbering xs) c (places xs back) (places (constrained_variables c) (constrained_back q r c a))))

  pub is_general-renamed : (c : Clause Term) → IsClauseLedBack q r c → is_general (clause_under (renaming r) c) ≡ is_general c
  is_general-renamed c a =
      let solved = is_solved-renamed r c.hypotheses in
      let known = is_variable_known-renamed r c.conclusion in
      let passed = is_passed_on-renamed c.hypotheses c.conclusion a.facts.1 a.facts.0 in
      λ i. (solved i && known i) && not (passed i)

  generalized-renamed : (c : Clause Term) → IsClauseLedBack q r c → numbered_anew (generalized (clause_under (renaming r) c)) ≡ numbered_anew (generalized c)
  generalized-renamed c a =
      (λ i. numbered_anew (cond (is_general-renamed c a i) (everything_known (phase_of-renamed r c.conclusion i)) (clause_under (renaming r) c)))
      ∙ elim (is_general c) as (λ b. numbered_anew (cond b (everything_known (phase_of c.conclusion)) (clause_under (renaming r) c)) ≡ numbered_anew (cond b (everything_known (phase_of c.conclusion)) c)) [
        | true ↦ refl
        | false ↦ numbered-renamed c a
      ]

  pub norm-renamed : (c : Clause Term) → IsClauseLedBack q r c → norm (clause_under (renaming r) c) ≡ norm c
  norm-renamed c a =
      let needed = without_needless c in
      let needed_back = without_needless-back c a in
      let kept = without_repeats needed in
      let back = without_repeats-back needed needed_back in
      let few = without_lonely kept in
      let void = is_void-renamed c a in
      let tautology = is_among-renamed q r kept.hypotheses kept.conclusion back.facts.1 back.facts.0 in
      let numbers = ap (λ d. numbered_anew (generalized d)) (without_lonely-renamed kept back) ∙ generalized-renamed few (without_lonely-back kept back) in
      let same = ap without_repeats (without_needless-renamed c a) ∙ without_repeats-renamed needed needed_back in
      ap (λ d. cond (is_void (clause_under (renaming r) c) || is_tautology d) None (Some (numbered_anew (generalized (without_lonely d))))) same
      ∙ (λ i. cond (void i || tautology i) None (Some (numbers i)))
