-- The norm of a clause of the first phase is its norm by counting, and such a clause is its own norm where the rules of that one keep it.
use Rattle.std.proofs.Common.{◌≡◌, ◌↔◌, ℕ, ◌+◌, ◌≤◌, Bool, true, false, not, ◌||◌, ◌&&◌, cond, nat_eq, Some, None, List, [], ◌∷◌, ◌++◌, refl, ap, sym, ◌∙◌, subst, arith, eqb-true, eq-eqb}
use Rattle.std.specs.Prelude.{flat_map, filter}
use Rattle.std.specs.List.{AllByRecursion, IsDistinct, list_any}
use Rattle.spec_trees.specs.Tree.{Leaf, Node}
use Rattle.spec_trees.proofs.Occurrence.{or_false}
use Rattle.spec_terms.specs.Term.{Term}
use Rattle.spec_terms.proofs.Replace.{eqb_self, eqb_sym}
use Rattle.spec_clauses.specs.Fact.{Fact, Att, Mess, Tab, Ev, Mev, Bad, Clause, same_fact, is_among, is_variable_known, phase_of}
use Rattle.spec_clauses.specs.Variables.{fact_variables, clause_variables, firm, loose, firm_variables}
use Rattle.spec_clauses.specs.Diff.{Diff}
use Rattle.spec_clauses.specs.DiffDecision.{is_never_met}
use Rattle.spec_clauses.specs.Selection.{is_solved}
use Rattle.spec_clauses.specs.Norm.{distinct, without_repeats, is_tautology, elsewhere, is_lonely, without_lonely, is_known, is_passed_on, is_general, everything_known, generalized, is_needed, is_void, without_needless, numbered_anew, norm}
use Rattle.spec_clauses.specs.FirstPhase.{IsInFirstPhase, times, occurs_once, without_useless, strengthened, norm_by_counting, EachCountedRuleKeeps}
use Rattle.spec_clauses.proofs.Lists.{all_filter, all_weaker, filter_same}
use Rattle.spec_clauses.proofs.Distinct.{distinct-distinct}
use Rattle.spec_clauses.proofs.Norm.{is_among-filter}
use Rattle.spec_clauses.proofs.NormKeeps.{own_norm}

-- How often a number stands in a list.
times-append : (x : ℕ) (xs ys : List ℕ) → times x (xs ++ ys) ≡ times x xs + times x ys
times-append x [] ys = omega arith
times-append x (y ∷ xs) ys = omega (arith, times-append x xs ys)

absent_times : (x : ℕ) (xs : List ℕ) → list_any (nat_eq x) xs ≡ false → times x xs ≡ 0
absent_times x [] e = refl
absent_times x (y ∷ xs) e = let parts = or_false (nat_eq x y) (list_any (nat_eq x) xs) e in rw parts.0 (omega (arith, absent_times x xs parts.1))

present_times : (x : ℕ) (xs : List ℕ) → list_any (nat_eq x) xs ≡ true → 1 ≤ times x xs
present_times x [] e = cc
present_times x (y ∷ xs) e = go (nat_eq x y) e (present_times x xs) where
  go : (b : Bool) → (b || list_any (nat_eq x) xs) ≡ true → (list_any (nat_eq x) xs ≡ true → 1 ≤ times x xs) → 1 ≤ cond b 1 0 + times x xs
  go true e later = omega arith
  go false e later = let least = later e in omega arith

-- The variables of hypotheses are those of the firm ones and those of the loose ones.
abbrev loose_variables : List (Fact Term) → List ℕ
loose_variables hs = flat_map fact_variables (loose hs)

times_split : (x : ℕ) (hs : List (Fact Term)) → times x (flat_map fact_variables hs) ≡ times x (firm_variables hs) + times x (loose_variables hs)
times_split x [] = refl
times_split x (h ∷ hs) = go (is_variable_known h) (times_split x hs) where
  go : (b : Bool) → times x (flat_map fact_variables hs) ≡ times x (firm_variables hs) + times x (loose_variables hs)
      → times x (fact_variables h ++ flat_map fact_variables hs) ≡ times x (flat_map fact_variables (cond (not b) (h ∷ firm hs) (firm hs))) + times x (flat_map fact_variables (cond b (h ∷ loose hs) (loose hs)))
  go true e = omega (arith, e, times-append x (fact_variables h) (flat_map fact_variables hs), times-append x (fact_variables h) (loose_variables hs))
  go false e = omega (arith, e, times-append x (fact_variables h) (flat_map fact_variables hs), times-append x (fact_variables h) (firm_variables hs))

-- Among distinct hypotheses of the first phase `att` of a variable stands once.
abbrev AreFirst : List (Fact Term) → Type 0
AreFirst hs = AllByRecursion (λ f. phase_of f ≡ 0) hs

not_again : (x : ℕ) (hs : List (Fact Term)) → AreFirst hs → AllByRecursion (λ h. same_fact (Att 0 (Leaf x)) h ≡ false) hs → times x (loose_variables hs) ≡ 0
not_again x [] first a = refl
not_again x (Att k (Leaf y) ∷ hs) first a =
    let apart : (nat_eq 0 k && nat_eq x y) ≡ false = a.0 in
    let differ : nat_eq x y ≡ false = ap (λ b. b && nat_eq x y) (sym (eq-eqb 0 k (sym first.0))) ∙ apart in
    rw differ (ap (λ n. 0 + n) (not_again x hs first.1 a.1))
not_again x (Att k (Node f args) ∷ hs) first a = not_again x hs first.1 a.1
not_again x (Mess k t u ∷ hs) first a = not_again x hs first.1 a.1
not_again x (Tab n ts ∷ hs) first a = not_again x hs first.1 a.1
not_again x (Ev n ts ∷ hs) first a = not_again x hs first.1 a.1
not_again x (Mev n ts ∷ hs) first a = not_again x hs first.1 a.1
not_again x (Bad ts ∷ hs) first a = not_again x hs first.1 a.1

-- `att` of a variable is the fact h, which stands once among the hypotheses
abbrev StandsOnce : List (Fact Term) → Fact Term → Type 0
StandsOnce hs h = (k x : ℕ) → h ≡ Att k (Leaf x) → times x (loose_variables hs) ≡ 1

once_here : (h : Fact Term) (hs : List (Fact Term)) → AreFirst (h ∷ hs) → AllByRecursion (λ g. same_fact h g ≡ false) hs → StandsOnce (h ∷ hs) h
once_here (Att j (Leaf y)) hs first apart k x e =
    let same : y ≡ x = cc in
    let none = not_again y hs first.1 (all_weaker (λ g. same_fact (Att j (Leaf y)) g ≡ false) (λ g. same_fact (Att 0 (Leaf y)) g ≡ false) (λ g d. ap (λ i. same_fact (Att i (Leaf y)) g) (sym first.0) ∙ d) hs apart) in
    let one : times y (y ∷ loose_variables hs) ≡ 1 = rw (eqb_self y) (omega (arith, none)) in
    ap (λ z. times z (y ∷ loose_variables hs)) (sym same) ∙ one
once_here (Att j (Node f args)) hs first apart k x e = cc
once_here (Mess j t u) hs first apart k x e = cc
once_here (Tab n ts) hs first apart k x e = cc
once_here (Ev n ts) hs first apart k x e = cc
once_here (Mev n ts) hs first apart k x e = cc
once_here (Bad ts) hs first apart k x e = cc

once_later : (h g : Fact Term) (hs : List (Fact Term)) → phase_of h ≡ 0 → phase_of g ≡ 0 → same_fact h g ≡ false → StandsOnce hs g → StandsOnce (h ∷ hs) g
once_later (Att j (Leaf y)) g hs p q apart once k x e =
    let tests : (nat_eq j k && nat_eq y x) ≡ false = ap (same_fact (Att j (Leaf y))) (sym e) ∙ apart in
    let zero_phase : k ≡ 0 = ap phase_of (sym e) ∙ q in
    let differ : nat_eq y x ≡ false = ap (λ b. b && nat_eq y x) (sym (eq-eqb j k (p ∙ sym zero_phase))) ∙ tests in
    rw (eqb_sym y x differ) (omega (arith, once k x e))
once_later (Att j (Node f args)) g hs p q apart once k x e = once k x e
once_later (Mess j t u) g hs p q apart once k x e = once k x e
once_later (Tab n ts) g hs p q apart once k x e = once k x e
once_later (Ev n ts) g hs p q apart once k x e = once k x e
once_later (Mev n ts) g hs p q apart once k x e = once k x e
once_later (Bad ts) g hs p q apart once k x e = once k x e

all_later : (h : Fact Term) (hs gs : List (Fact Term)) → phase_of h ≡ 0 → AreFirst gs → AllByRecursion (λ g. same_fact h g ≡ false) gs → AllByRecursion (StandsOnce hs) gs → AllByRecursion (StandsOnce (h ∷ hs)) gs
all_later h hs [] p first apart once = tt
all_later h hs (g ∷ gs) p first apart once = (once_later h g hs p first.0 apart.0 once.0, all_later h hs gs p first.1 apart.1 once.1)

all_once : (hs : List (Fact Term)) → IsDistinct same_fact hs → AreFirst hs → AllByRecursion (StandsOnce hs) hs
unfolding IsDistinct
all_once [] d first = tt
all_once (h ∷ hs) d first = (once_here h hs first d.0, all_later h hs hs first.0 first.1 d.0 (all_once hs d.1 first.1))

-- So a hypothesis is lonely where its variable occurs once.
not_one : (n : ℕ) → 2 ≤ n → nat_eq n 1 ≡ false
not_one n l = go (nat_eq n 1) refl where
  go : (b : Bool) → nat_eq n 1 ≡ b → b ≡ false
  go true e = let one = eqb-true n 1 e in absurd (omega arith)
  go false e = refl

lonely_alike : (c : Clause Term) (h : Fact Term) → StandsOnce c.hypotheses h → is_lonely (elsewhere c) h ≡ occurs_once (clause_variables c) h
lonely_alike c (Att k (Leaf x)) once = go (list_any (nat_eq x) (elsewhere c)) refl where
  sum : times x (clause_variables c) ≡ times x (elsewhere c) + 1
  sum = omega (arith, once k x refl, times_split x c.hypotheses, times-append x (fact_variables c.conclusion) (flat_map fact_variables c.hypotheses), times-append x (fact_variables c.conclusion) (firm_variables c.hypotheses))

  go : (b : Bool) → list_any (nat_eq x) (elsewhere c) ≡ b → not b ≡ nat_eq (times x (clause_variables c)) 1
  go true e = sym (not_one (times x (clause_variables c)) (omega (arith, sum, present_times x (elsewhere c) e)))
  go false e = sym (eq-eqb (times x (clause_variables c)) 1 (omega (arith, sum, absent_times x (elsewhere c) e)))
lonely_alike c (Att k (Node f args)) once = refl
lonely_alike c (Mess k t u) once = refl
lonely_alike c (Tab n ts) once = refl
lonely_alike c (Ev n ts) once = refl
lonely_alike c (Mev n ts) once = refl
lonely_alike c (Bad ts) once = refl

useless_alike : (c : Clause Term) → IsDistinct same_fact c.hypotheses → AreFirst c.hypotheses → without_lonely c ≡ without_useless c
useless_alike c d first =
    let tests = all_weaker (StandsOnce c.hypotheses) (λ h. not (is_lonely (elsewhere c) h) ≡ not (occurs_once (clause_variables c) h)) (λ h once. ap not (lonely_alike c h once)) c.hypotheses (all_once c.hypotheses d first) in
    λ i. record { hypotheses = filter_same (λ h. not (is_lonely (elsewhere c) h)) (λ h. not (occurs_once (clause_variables c) h)) c.hypotheses tests i; diffs = c.diffs; conclusion = c.conclusion }

-- What is passed on within the first phase is a tautology.
known_among : (k x : ℕ) (hs : List (Fact Term)) → AreFirst hs → k ≡ 0 → is_among hs (Att k (Leaf x)) ≡ false → list_any (is_known x) hs ≡ false
known_among k x [] first z e = refl
known_among k x (Att j (Leaf y) ∷ hs) first z e =
    let parts = or_false (same_fact (Att k (Leaf x)) (Att j (Leaf y))) (is_among hs (Att k (Leaf x))) e in
    let differ : nat_eq x y ≡ false = ap (λ b. b && nat_eq x y) (sym (eq-eqb k j (z ∙ sym first.0))) ∙ parts.0 in
    rw differ (known_among k x hs first.1 z parts.1)
known_among k x (Att j (Node f args) ∷ hs) first z e = known_among k x hs first.1 z (or_false (same_fact (Att k (Leaf x)) (Att j (Node f args))) (is_among hs (Att k (Leaf x))) e).1
known_among k x (Mess j t u ∷ hs) first z e = known_among k x hs first.1 z e
known_among k x (Tab n ts ∷ hs) first z e = known_among k x hs first.1 z e
known_among k x (Ev n ts ∷ hs) first z e = known_among k x hs first.1 z e
known_among k x (Mev n ts ∷ hs) first z e = known_among k x hs first.1 z e
known_among k x (Bad ts ∷ hs) first z e = known_among k x hs first.1 z e

not_passed_on : (hs : List (Fact Term)) (f : Fact Term) → AreFirst hs → phase_of f ≡ 0 → is_among hs f ≡ false → is_passed_on hs f ≡ false
not_passed_on hs (Att k (Leaf x)) first z e = rw (known_among k x hs first z e) refl
not_passed_on hs (Att k (Node f args)) first z e = refl
not_passed_on hs (Mess k t u) first z e = refl
not_passed_on hs (Tab n ts) first z e = refl
not_passed_on hs (Ev n ts) first z e = refl
not_passed_on hs (Mev n ts) first z e = refl
not_passed_on hs (Bad ts) first z e = refl

and_end : (b : Bool) → (b && true) ≡ b
and_end true = refl
and_end false = refl

strengthened_alike : (c : Clause Term) → AreFirst c.hypotheses → phase_of c.conclusion ≡ 0 → is_among c.hypotheses c.conclusion ≡ false → generalized c ≡ strengthened c
strengthened_alike c first z says =
    let solved = is_solved c.hypotheses && is_variable_known c.conclusion in
    let tests : is_general c ≡ solved = ap (λ b. solved && not b) (not_passed_on c.hypotheses c.conclusion first z says) ∙ and_end solved in
    λ i. cond (tests i) (everything_known (z i)) c

first_distinct : (hs : List (Fact Term)) → AreFirst hs → AreFirst (distinct same_fact hs)
first_distinct [] a = tt
first_distinct (h ∷ hs) a = (a.0, all_filter (λ f. phase_of f ≡ 0) (λ y. not (same_fact h y)) (distinct same_fact hs) (first_distinct hs a.1))

-- a clause without constraints has none that is never met, and none that is needless
none_needless : (c : Clause Term) → c.diffs ≡ [] → without_needless c ≡ c
none_needless c none = (λ i. record { hypotheses = c.hypotheses; diffs = filter (is_needed c) (none i); conclusion = c.conclusion }) ∙ ap bare (sym none) where
  bare : List Diff → Clause Term
  bare ds = record { hypotheses = c.hypotheses; diffs = ds; conclusion = c.conclusion }

none_void : (c : Clause Term) → c.diffs ≡ [] → is_void c ≡ false
none_void c none = ap (list_any is_never_met) none

pub counted : (c : Clause Term) → IsInFirstPhase c → norm c ≡ norm_by_counting c
counted c is_first = plain ∙ go (is_tautology (without_repeats c)) refl where
  rest : Clause Term → Clause Term
  rest d = numbered_anew (generalized (without_lonely (without_repeats d)))

  plain : norm c ≡ cond (is_tautology (without_repeats c)) None (Some (rest c))
  plain = ap (λ b. cond (b || is_tautology (without_repeats (without_needless c))) None (Some (rest (without_needless c)))) (none_void c is_first.no_diffs) ∙ ap (λ d. cond (is_tautology (without_repeats d)) None (Some (rest d))) (none_needless c is_first.no_diffs)

  go : (b : Bool) → is_tautology (without_repeats c) ≡ b → cond b None (Some (rest c)) ≡ cond b None (Some (numbered_anew (strengthened (without_useless (without_repeats c)))))
  go true e = refl
  go false e =
      let first = is_first.first in
      let hs = distinct same_fact c.hypotheses in
      let firsts = first_distinct c.hypotheses first.1 in
      let test = λ (h : Fact Term). not (is_lonely (elsewhere (without_repeats c)) h) in
      let general = strengthened_alike (without_lonely (without_repeats c)) (all_filter (λ f. phase_of f ≡ 0) test hs firsts) first.0 (is_among-filter test hs c.conclusion e) in
      ap (λ d. Some (numbered_anew d)) (general ∙ ap strengthened (useless_alike (without_repeats c) (distinct-distinct same_fact c.hypotheses) firsts))

-- What the rules of either norm keep is the same.
pub counted_rules : (c : Clause Term) → IsInFirstPhase c → (norm c ≡ Some c) ↔ EachCountedRuleKeeps c
counted_rules c is_first = (
  λ e. let k = (own_norm c).0 e in record {
    no_repeats = k.no_repeats;
    no_tautology = k.no_tautology;
    none_useless = sym (useless_alike c (apart k.no_repeats) is_first.first.1) ∙ k.none_lonely;
    general = sym (strengthened_alike c is_first.first.1 is_first.first.0 k.no_tautology) ∙ k.general;
    numbers = k.numbers;
  },
  λ k. (own_norm c).1 record {
    none_void = none_void c is_first.no_diffs;
    none_needless = none_needless c is_first.no_diffs;
    no_repeats = k.no_repeats;
    no_tautology = k.no_tautology;
    none_lonely = useless_alike c (apart k.no_repeats) is_first.first.1 ∙ k.none_useless;
    general = strengthened_alike c is_first.first.1 is_first.first.0 k.no_tautology ∙ k.general;
    numbers = k.numbers;
  },
) where
  apart : without_repeats c ≡ c → IsDistinct same_fact c.hypotheses
  apart e = subst (λ (hs : List (Fact Term)). IsDistinct same_fact hs) (ap (λ (d : Clause Term). d.hypotheses) e) (distinct-distinct same_fact c.hypotheses)
