-- What the tests of a clause that is its own norm tell: each of them, that a rule leaves the clause as it is.
use Rattle.std.proofs.Common.{◌≡◌, ◌↔◌, ℕ, zero, suc, ◌+◌, ◌<◌, ◌≤◌, Bool, true, false, not, ◌&&◌, ◌||◌, cond, nat_eq, nat_lt, None, Some, is_some, Result, Ok, Err, IfOk, List, [], ◌∷◌, length, filter, map, refl, ap, sym, ◌∙◌, subst, eqb-true, eq-eqb, ne_eqb, ltb-true, ltb-false, lt-ltb, le-ltb, arith}
use Rattle.std.specs.Prelude.{IsTrue}
use Rattle.std.specs.declared.alloc.AllocError.{AllocError}
use Rattle.std.specs.List.{AllByRecursion, IsDistinct, list_any, list_all, range_with_len}
use Rattle.std.proofs.lemmas.Bool.{false≢true}
use Rattle.spec_trees.specs.Tree.{Leaf}
use Rattle.spec_trees.proofs.Equality.{and_true}
use Rattle.spec_trees.proofs.Occurrence.{or_false}
use Rattle.spec_terms.specs.Term.{Term}
use Rattle.spec_clauses.specs.Diff.{Diff, numbered_diff, same_diff}
use Rattle.spec_clauses.specs.Fact.{Fact, Clause, same_fact, is_among, phase_of}
use Rattle.spec_clauses.specs.Variables.{clause_variables, constrained_variables}
use Rattle.spec_clauses.specs.DiffDecision.{is_never_met}
use Rattle.spec_clauses.specs.Norm.{distinct, place_of, numbering, elsewhere, is_lonely, anchors, is_needed, is_void, without_needless, without_repeats, without_lonely, everything_known, tidied, numbered_anew, IsNormal}
use Rattle.spec_clauses.proofs.Lists.{all_weaker}
use Rattle.spec_clauses.proofs.Facts.{clause_under-agree, clause_under-Leaf}
use Rattle.spec_clauses.proofs.Renaming.{clause_variables-renamed, variables_distinct-renamed}
use Rattle.spec_clauses.proofs.Distinct.{all-filter_passes, filter-all, distinct-distinct, distinct-fixed, nat_eq-decides, stand_all, stands_distinct, at_places, places_of_distinct}
use Rattle.spec_clauses.proofs.Anchors.{constrained_stand}
use Rattle.spec_clauses.proofs.Norm.{names_of, back_of}
use Rattle.spec_clauses.proofs.NormKeeps.{own_norm}
use Rattle.clause_diffs.specs.Needed.{is_needed_among}
use Rattle.clause_form.specs.Normality.{are_different, number_after, numbers_after, AreFactsNumbered, unconstrained, KeepsItsFacts, KeepsItsVariables, KeepsItsDiffs}

of_not : (b : Bool) → not b ≡ true → b ≡ false
of_not true e = cc
of_not false e = refl

-- No hypothesis stands twice.
none_same : (f : Fact Term) (fs : List (Fact Term)) → is_among fs f ≡ false → AllByRecursion (λ g. same_fact f g ≡ false) fs
none_same f [] e = tt
none_same f (g ∷ fs) e = let parts = or_false (same_fact f g) (is_among fs f) e in (parts.0, none_same f fs parts.1)

none_among : (f : Fact Term) (fs : List (Fact Term)) → AllByRecursion (λ g. same_fact f g ≡ false) fs → is_among fs f ≡ false
none_among f [] a = refl
none_among f (g ∷ fs) a = ap (λ b. b || is_among fs f) a.0 ∙ none_among f fs a.1

different_distinct : (fs : List (Fact Term)) → are_different fs ≡ true → IsDistinct same_fact fs
unfolding IsDistinct
different_distinct [] e = tt
different_distinct (f ∷ fs) e = let parts = and_true (not (is_among fs f)) (are_different fs) e in (none_same f fs (of_not (is_among fs f) parts.0), different_distinct fs parts.1)

distinct_different : (fs : List (Fact Term)) → IsDistinct same_fact fs → are_different fs ≡ true
unfolding IsDistinct
distinct_different [] d = refl
distinct_different (f ∷ fs) d = ap (λ b. not b && are_different fs) (none_among f fs d.0) ∙ distinct_different fs d.1

pub repeats_told : (c : Clause Term) → (are_different c.hypotheses ≡ true) ↔ (without_repeats c ≡ c)
repeats_told c = (
  λ e. λ i. record { hypotheses = distinct-fixed same_fact c.hypotheses (different_distinct c.hypotheses e) i; diffs = c.diffs; conclusion = c.conclusion },
  λ e. distinct_different c.hypotheses (subst (λ (hs : List (Fact Term)). IsDistinct same_fact hs) (ap (λ (d : Clause Term). d.hypotheses) e) (distinct-distinct same_fact c.hypotheses)),
)

pub repeats_are : (c : Clause Term) (b : Bool) → b ≡ are_different c.hypotheses → (b ≡ true) ↔ (without_repeats c ≡ c)
repeats_are c b e = (λ f. (repeats_told c).0 (sym e ∙ f), λ k. e ∙ (repeats_told c).1 k)

-- No hypothesis is lonely.
pub all_pass : {X : Type 0} (p : X → Bool) (xs : List X) → list_all p xs ≡ true → AllByRecursion (λ x. p x ≡ true) xs
all_pass p [] e = tt
all_pass p (x ∷ xs) e = let parts = and_true (p x) (list_all p xs) e in (parts.0, all_pass p xs parts.1)

pass_all : {X : Type 0} (p : X → Bool) (xs : List X) → AllByRecursion (λ x. p x ≡ true) xs → list_all p xs ≡ true
pass_all p [] a = refl
pass_all p (x ∷ xs) a = ap (λ b. b && list_all p xs) a.0 ∙ pass_all p xs a.1

abbrev unlonely : Clause Term → Fact Term → Bool
unlonely c h = not (is_lonely (elsewhere c) h)

pub lonely_told : (c : Clause Term) → (list_all (λ h. not (is_lonely (elsewhere c) h)) c.hypotheses ≡ true) ↔ (without_lonely c ≡ c)
lonely_told c = (
  λ e. λ i. record { hypotheses = filter-all (unlonely c) c.hypotheses (all_pass (unlonely c) c.hypotheses e) i; diffs = c.diffs; conclusion = c.conclusion },
  λ e. pass_all (unlonely c) c.hypotheses (subst (λ (hs : List (Fact Term)). AllByRecursion (λ h. unlonely c h ≡ true) hs) (ap (λ (d : Clause Term). d.hypotheses) e) (all-filter_passes (unlonely c) c.hypotheses)),
)

pub lonely_are : (c : Clause Term) (b : Bool) → b ≡ list_all (λ h. not (is_lonely (elsewhere c) h)) c.hypotheses → (b ≡ true) ↔ (without_lonely c ≡ c)
lonely_are c b e = (λ f. (lonely_told c).0 (sym e ∙ f), λ k. e ∙ (lonely_told c).1 k)

-- Variables are numbered: those that occur, each once in order, are 0, 1 and so on.
filter_filter : (p q r : ℕ → Bool) → ((y : ℕ) → cond (q y) (p y) false ≡ r y) → (ds : List ℕ) → filter p (filter q ds) ≡ filter r ds
filter_filter p q r e [] = refl
filter_filter p q r e (y ∷ ds) = go (q y) (r y) (e y) (filter_filter p q r e ds) where
  go : (a b : Bool) → cond a (p y) false ≡ b → filter p (filter q ds) ≡ filter r ds → filter p (cond a (y ∷ filter q ds) (filter q ds)) ≡ cond b (y ∷ filter r ds) (filter r ds)
  go true b k others = ap (λ d. cond d (y ∷ filter p (filter q ds)) (filter p (filter q ds))) k ∙ ap (λ l. cond b (y ∷ l) l) others
  go false b k others = others ∙ ap (λ d. cond d (y ∷ filter r ds) (filter r ds)) k

abbrev not_below : ℕ → ℕ → Bool
not_below n x = not (nat_lt x n)

-- the numbers from n on that occur, each once in order
abbrev from : ℕ → List ℕ → List ℕ
from n xs = filter (not_below n) (distinct nat_eq xs)

below_or_not : (x n y : ℕ) → x < n → cond (not (nat_eq x y)) (not_below n y) false ≡ not_below n y
below_or_not x n y below = go (nat_eq x y) refl where
  go : (b : Bool) → nat_eq x y ≡ b → cond (not b) (not_below n y) false ≡ not_below n y
  go true e = ap not (sym (lt-ltb y n (let same = eqb-true x y e in omega arith)))
  go false e = refl

next_or_not : (x y : ℕ) → cond (not (nat_eq x y)) (not_below x y) false ≡ not_below (x + 1) y
next_or_not x y = go (nat_eq x y) (nat_lt y x) refl refl where
  go : (a b : Bool) → nat_eq x y ≡ a → nat_lt y x ≡ b → cond (not a) (not b) false ≡ not_below (x + 1) y
  go true b e k = ap not (sym (lt-ltb y (x + 1) (let same = eqb-true x y e in omega arith)))
  go false true e k = ap not (sym (lt-ltb y (x + 1) (let less = ltb-true y x k in omega arith)))
  go false false e k = ap not (sym (le-ltb y (x + 1) (above (ltb-false y x k)))) where
    above : x ≤ y → x + 1 ≤ y
    above most = apart (λ same. let clash : true ≡ false = sym (eq-eqb x y same) ∙ e in cc) where
      apart : (x ≡ y → ⊥) → x + 1 ≤ y
      apart differ = omega (arith, differ)

from_step : (n x : ℕ) (xs : List ℕ) (b : Bool) → nat_lt x n ≡ b → from n (x ∷ xs) ≡ cond (not b) (x ∷ filter (not_below n) (filter (λ y. not (nat_eq x y)) (distinct nat_eq xs))) (filter (not_below n) (filter (λ y. not (nat_eq x y)) (distinct nat_eq xs)))
from_step n x xs b e = ap (λ d. cond (not d) (x ∷ filter (not_below n) (filter (λ y. not (nat_eq x y)) (distinct nat_eq xs))) (filter (not_below n) (filter (λ y. not (nat_eq x y)) (distinct nat_eq xs)))) e

from_below : (n x : ℕ) (xs : List ℕ) → x < n → from n (x ∷ xs) ≡ from n xs
from_below n x xs below = from_step n x xs true (lt-ltb x n below) ∙ filter_filter (not_below n) (λ y. not (nat_eq x y)) (not_below n) (λ y. below_or_not x n y below) (distinct nat_eq xs)

from_next : (x : ℕ) (xs : List ℕ) → from x (x ∷ xs) ≡ x ∷ from (x + 1) xs
from_next x xs = from_step x x xs false (le-ltb x x (omega arith)) ∙ ap (λ l. x ∷ l) (filter_filter (not_below x) (λ y. not (nat_eq x y)) (not_below (x + 1)) (next_or_not x) (distinct nat_eq xs))

from_above : (n x : ℕ) (xs : List ℕ) → n < x → from n (x ∷ xs) ≡ x ∷ filter (not_below n) (filter (λ y. not (nat_eq x y)) (distinct nat_eq xs))
from_above n x xs more = from_step n x xs false (le-ltb x n (omega arith))

after_none : (xs : List ℕ) → numbers_after None xs ≡ None
after_none [] = refl
after_none (x ∷ xs) = after_none xs

-- how a number stands to the next one
data Order (n x : ℕ) : Type 0 where
  below : x < n → Order n x
  next : x ≡ n → Order n x
  beyond : n < x → Order n x

ordered : (n x : ℕ) → Order n x
ordered n x = go (nat_lt x n) (nat_lt n x) refl refl where
  go : (a b : Bool) → nat_lt x n ≡ a → nat_lt n x ≡ b → Order n x
  go true b e k = below (ltb-true x n e)
  go false true e k = beyond (ltb-true n x k)
  go false false e k = next (let first = ltb-false x n e in let second = ltb-false n x k in omega arith)

after_below : (n x : ℕ) → x < n → number_after (Some n) x ≡ Some n
after_below n x less = ap (λ b. cond b (Some (n + 1)) (cond (nat_lt x n) (Some n) None)) (ne_eqb x n (λ e. absurd (omega (arith, e)))) ∙ ap (λ b. cond b (Some n) None) (lt-ltb x n less)

after_next : (n : ℕ) → number_after (Some n) n ≡ Some (n + 1)
after_next n = ap (λ b. cond b (Some (n + 1)) (cond (nat_lt n n) (Some n) None)) (eq-eqb n n refl)

after_beyond : (n x : ℕ) → n < x → number_after (Some n) x ≡ None
after_beyond n x more = ap (λ b. cond b (Some (n + 1)) (cond (nat_lt x n) (Some n) None)) (ne_eqb x n (λ e. absurd (omega (arith, e)))) ∙ ap (λ b. cond b (Some n) None) (le-ltb x n (omega arith))

counts : ℕ → List ℕ → Type 0
counts n xs = (m : ℕ) × (from n xs ≡ range_with_len n m)

told_step : (n x : ℕ) (xs : List ℕ) → Order n x → ((k : ℕ) → is_some (numbers_after (Some k) xs) ≡ true → (m : ℕ) × (from k xs ≡ range_with_len k m)) → is_some (numbers_after (number_after (Some n) x) xs) ≡ true → (m : ℕ) × (from n (x ∷ xs) ≡ range_with_len n m)
told_step n x xs (below less) others e =
    let later = others n (ap (λ o. is_some (numbers_after o xs)) (sym (after_below n x less)) ∙ e) in (later.0, from_below n x xs less ∙ later.1)
told_step n x xs (next same) others e =
    let here : number_after (Some n) x ≡ Some (n + 1) = ap (number_after (Some n)) same ∙ after_next n in
    let later = others (n + 1) (ap (λ o. is_some (numbers_after o xs)) (sym here) ∙ e) in
    (suc later.0, ap (λ y. from n (y ∷ xs)) same ∙ (from_next n xs ∙ ap (λ l. n ∷ l) later.1))
told_step n x xs (beyond more) others e =
    let none : is_some (numbers_after (number_after (Some n) x) xs) ≡ false = ap (λ o. is_some (numbers_after o xs)) (after_beyond n x more) ∙ ap is_some (after_none xs) in
    let clash : true ≡ false = sym e ∙ none in cc

told_range : (n : ℕ) (xs : List ℕ) → is_some (numbers_after (Some n) xs) ≡ true → (m : ℕ) × (from n xs ≡ range_with_len n m)
told_range n [] e = (0, refl)
told_range n (x ∷ xs) e = told_step n x xs (ordered n x) (λ k f. told_range k xs f) e

head_is : (x y : ℕ) (xs ys : List ℕ) → (x ∷ xs) ≡ (y ∷ ys) → x ≡ y
head_is x y xs ys e = cc

tail_is : (x y : ℕ) (xs ys : List ℕ) → (x ∷ xs) ≡ (y ∷ ys) → xs ≡ ys
tail_is x y xs ys e = cc

first_is : (n x m : ℕ) (xs : List ℕ) → (x ∷ xs) ≡ range_with_len n m → x ≡ n
first_is n x zero xs e = cc
first_is n x (suc m) xs e = head_is x n xs (range_with_len (n + 1) m) e

others_are : (n x m : ℕ) (xs : List ℕ) → (x ∷ xs) ≡ range_with_len n m → (k : ℕ) × (xs ≡ range_with_len (n + 1) k)
others_are n x zero xs e = cc
others_are n x (suc m) xs e = (m, tail_is x n xs (range_with_len (n + 1) m) e)

range_step : (n m x : ℕ) (xs : List ℕ) → Order n x → ((k l : ℕ) → from k xs ≡ range_with_len k l → is_some (numbers_after (Some k) xs) ≡ true) → from n (x ∷ xs) ≡ range_with_len n m → is_some (numbers_after (number_after (Some n) x) xs) ≡ true
range_step n m x xs (below less) later e = ap (λ o. is_some (numbers_after o xs)) (after_below n x less) ∙ later n m (sym (from_below n x xs less) ∙ e)
range_step n m x xs (next same) later e =
    let here : number_after (Some n) x ≡ Some (n + 1) = ap (number_after (Some n)) same ∙ after_next n in
    let all : (n ∷ from (n + 1) xs) ≡ range_with_len n m = sym (from_next n xs) ∙ (ap (λ y. from n (y ∷ xs)) (sym same) ∙ e) in
    let others = others_are n n m (from (n + 1) xs) all in
    ap (λ o. is_some (numbers_after o xs)) here ∙ later (n + 1) others.0 others.1
range_step n m x xs (beyond more) later e = absurd (omega (arith, more, first_is n x m (filter (not_below n) (filter (λ y. not (nat_eq x y)) (distinct nat_eq xs))) (sym (from_above n x xs more) ∙ e)))

range_told : (n m : ℕ) (xs : List ℕ) → from n xs ≡ range_with_len n m → is_some (numbers_after (Some n) xs) ≡ true
range_told n m [] e = refl
range_told n m (x ∷ xs) e = range_step n m x xs (ordered n x) (λ k l f. range_told k l xs f) e

-- from 0 on they are all
filter_true : (ds : List ℕ) → filter (not_below 0) ds ≡ ds
filter_true ds = filter-all (not_below 0) ds (each ds) where
  each : (ys : List ℕ) → AllByRecursion (λ y. not_below 0 y ≡ true) ys
  each [] = tt
  each (y ∷ ys) = (ap not (le-ltb y 0 (omega arith)), each ys)

numbered_range : (c : Clause Term) → numbered_anew c ≡ c → (m : ℕ) × (distinct nat_eq (clause_variables c) ≡ range_with_len 0 m)
numbered_range c e =
    let vs = clause_variables c in
    let ds = distinct nat_eq vs in
    let numbers = variables_distinct-renamed (back_of c) (names_of c) vs (at_places vs) in
    (length ds, ap (λ d. distinct nat_eq (clause_variables d)) (sym e) ∙ (ap (distinct nat_eq) (clause_variables-renamed (names_of c) c) ∙ (numbers ∙ places_of_distinct ds (distinct-distinct nat_eq vs))))

-- a number stands at its own place among those from n on
place_range : (n m x : ℕ) → list_any (nat_eq x) (range_with_len n m) ≡ true → n + place_of x (range_with_len n m) ≡ x
place_range n zero x e = cc
place_range n (suc m) x e = go (nat_eq x n) refl (λ l. place_range (n + 1) m x l) e where
  go : (b : Bool) → nat_eq x n ≡ b → (list_any (nat_eq x) (range_with_len (n + 1) m) ≡ true → (n + 1) + place_of x (range_with_len (n + 1) m) ≡ x) → (b || list_any (nat_eq x) (range_with_len (n + 1) m)) ≡ true → n + cond b 0 (suc (place_of x (range_with_len (n + 1) m))) ≡ x
  go true k later l = let same = eqb-true x n k in omega arith
  go false k later l = let rest = later l in omega arith

place_here : (m x : ℕ) → list_any (nat_eq x) (range_with_len 0 m) ≡ true → place_of x (range_with_len 0 m) ≡ x
place_here m x e = omega (arith, place_range 0 m x e)

-- where the variables of the facts are numbered so, only the constraints may change
numbered_then : (c : Clause Term) (m : ℕ) → without_needless c ≡ c → distinct nat_eq (clause_variables c) ≡ range_with_len 0 m → numbered_anew c ≡ tidied c
numbered_then c m needed e =
    let vs = clause_variables c in
    let fixed : (x : ℕ) → list_any (nat_eq x) vs ≡ true → numbering vs x ≡ Leaf x =
    (λ x stands. ap Leaf (ap (place_of x) e ∙ place_here m x (ap (list_any (nat_eq x)) (sym e) ∙ (stands_distinct nat_eq nat_eq-decides x vs ∙ stands)))) in
    let own = all_weaker (λ x. list_any (nat_eq x) vs ≡ true) (λ x. numbering vs x ≡ Leaf x) fixed vs (stand_all vs) in
    let constraints = all_weaker (λ x. list_any (nat_eq x) vs ≡ true) (λ x. numbering vs x ≡ Leaf x) fixed (constrained_variables c) (constrained_stand c needed) in
    ap tidied (clause_under-agree (numbering vs) Leaf c own constraints ∙ clause_under-Leaf c)

numbers_then : (c : Clause Term) → without_needless c ≡ c → AreFactsNumbered c → numbered_anew c ≡ tidied c
numbers_then c needed e = let range = told_range 0 (clause_variables c) e in numbered_then c range.0 needed (sym (filter_true (distinct nat_eq (clause_variables c))) ∙ range.1)

numbers_from : (c : Clause Term) → numbered_anew c ≡ c → AreFactsNumbered c
numbers_from c e = let range = numbered_range c e in range_told 0 range.0 (clause_variables c) (filter_true (distinct nat_eq (clause_variables c)) ∙ range.1)

pub numbers_are : (c : Clause Term) (b : Bool) → b ≡ is_some (numbers_after (Some 0) (clause_variables c)) → (b ≡ true) ↔ AreFactsNumbered c
numbers_are c b e = (λ f. sym e ∙ f, λ k. e ∙ k)

-- The clause that says that the attacker has everything has no constraints.
pub alone_then : (c : Clause Term) (b : Bool) → c.diffs ≡ [] → (b ≡ true) ↔ (unconstrained c ≡ everything_known (phase_of c.conclusion)) → (b ≡ true) ↔ (c ≡ everything_known (phase_of c.conclusion))
alone_then c b none told =
    let same : c ≡ unconstrained c = λ i. record { hypotheses = c.hypotheses; diffs = none i; conclusion = c.conclusion } in
    (λ e. same ∙ told.0 e, λ k. told.1 (sym same ∙ k))

pub alone_else : (c : Clause Term) (b : Bool) → (c.diffs ≡ [] → ⊥) → b ≡ false → (b ≡ true) ↔ (c ≡ everything_known (phase_of c.conclusion))
alone_else c b some e = (λ f. absurd (false≢true (sym e ∙ f)), λ k. absurd (some (ap (λ (d : Clause Term). d.diffs) k)))

-- All rules together.
normal_told : (c : Clause Term) → ((KeepsItsFacts c × KeepsItsVariables c) × KeepsItsDiffs c) ↔ IsNormal c
normal_told c = (
  λ k. record {
    flat = k.0.0.flat;
    own = (own_norm c).1 record {
      none_void = k.1.none_void;
      none_needless = k.1.none_needless;
      no_repeats = k.0.0.no_repeats;
      no_tautology = k.0.0.no_tautology;
      none_lonely = k.0.1.none_lonely;
      general = k.0.1.general;
      numbers = numbers_then c k.1.none_needless k.0.1.numbers ∙ k.1.tidy;
    };
  },
  λ n. let k = (own_norm c).0 n.own in (
    (
      record { flat = n.flat; no_repeats = k.no_repeats; no_tautology = k.no_tautology },
      record { none_lonely = k.none_lonely; general = k.general; numbers = numbers_from c k.numbers },
    ),
    record { none_void = k.none_void; none_needless = k.none_needless; tidy = sym (numbers_then c k.none_needless (numbers_from c k.numbers)) ∙ k.numbers },
  ),
)

pub both_then : {P Q : Type 0} (b : Bool) → P → (b ≡ true) ↔ Q → (b ≡ true) ↔ (P × Q)
both_then b first told = (λ e. (first, told.0 e), λ k. told.1 k.1)

pub both_else : {P Q : Type 0} (b : Bool) → (b ≡ true) ↔ P → b ≡ false → (b ≡ true) ↔ (P × Q)
both_else b told e = (λ f. absurd (false≢true (sym e ∙ f)), λ k. told.1 k.0)

pub normal_then : (c : Clause Term) (b : Bool) (r : Result Bool AllocError) → (b ≡ true) ↔ (KeepsItsFacts c × KeepsItsVariables c) → b ≡ true → IfOk r (λ answer. IsTrue answer ↔ KeepsItsDiffs c) → IfOk r (λ answer. IsTrue answer ↔ IsNormal c)
normal_then c b (Ok answer) told passed kept = (λ e. (normal_told c).0 (told.0 passed, kept.0 e), λ n. kept.1 ((normal_told c).1 n).1)
normal_then c b (Err failed) told passed kept = tt

pub normal_not : (c : Clause Term) (b : Bool) → (b ≡ true) ↔ (KeepsItsFacts c × KeepsItsVariables c) → b ≡ false → IsNormal c → ⊥
normal_not c b told e n = false≢true (sym e ∙ told.1 ((normal_told c).1 n).0)

-- The rules of constraints, one by one: where there are none, each of them leaves the clause as it is.
pub none_kept : (c : Clause Term) → c.diffs ≡ [] → KeepsItsDiffs c
none_kept c none = record {
  none_void = ap (list_any is_never_met) none;
  none_needless = λ i. record { hypotheses = c.hypotheses; diffs = (ap (filter (is_needed c)) none ∙ sym none) i; conclusion = c.conclusion };
  tidy = λ i. record { hypotheses = c.hypotheses; diffs = (ap (λ ds. distinct same_diff (map numbered_diff ds)) none ∙ sym none) i; conclusion = c.conclusion };
}

pub needless_told : (c : Clause Term) (ns : List ℕ) (ds : List Diff) (r : Result Bool AllocError) → ns ≡ anchors c → ds ≡ c.diffs → IfOk r (λ answer. answer ≡ list_all (is_needed_among ns) ds) → IfOk r (λ answer. IsTrue answer ↔ (without_needless c ≡ c))
needless_told c ns ds (Ok answer) anchors_are diffs_are told =
    let all : answer ≡ list_all (is_needed c) c.diffs = told ∙ (λ i. list_all (is_needed_among (anchors_are i)) (diffs_are i)) in (
      λ e. λ i. record { hypotheses = c.hypotheses; diffs = filter-all (is_needed c) c.diffs (all_pass (is_needed c) c.diffs (sym all ∙ e)) i; conclusion = c.conclusion },
      λ k. all ∙ pass_all (is_needed c) c.diffs (subst (λ (l : List Diff). AllByRecursion (λ d. is_needed c d ≡ true) l) (ap (λ (d : Clause Term). d.diffs) k) (all-filter_passes (is_needed c) c.diffs)),
    )
needless_told c ns ds (Err failed) anchors_are diffs_are told = tt

pub tidy_told : (c : Clause Term) (ds : List Diff) (b : Bool) (r : Result Bool AllocError) → ds ≡ c.diffs → IsTrue b ↔ (without_needless c ≡ c) → b ≡ true → IfOk r (λ answer. IsTrue answer ↔ (distinct same_diff (map numbered_diff ds) ≡ ds))
    → IfOk r (λ answer. IsTrue answer ↔ ((without_needless c ≡ c) × (tidied c ≡ c)))
tidy_told c ds b (Ok answer) diffs_are needed passed told = (
  λ e. (needed.0 passed, λ i. record { hypotheses = c.hypotheses; diffs = (ap (λ l. distinct same_diff (map numbered_diff l)) (sym diffs_are) ∙ (told.0 e ∙ diffs_are)) i; conclusion = c.conclusion }),
  λ k. told.1 (ap (λ l. distinct same_diff (map numbered_diff l)) diffs_are ∙ (ap (λ (d : Clause Term). d.diffs) k.1 ∙ sym diffs_are)),
)
tidy_told c ds b (Err failed) diffs_are needed passed told = tt

pub diffs_told : (c : Clause Term) (b : Bool) (r : Result Bool AllocError) → b ≡ is_void c → b ≡ false → IfOk r (λ answer. IsTrue answer ↔ ((without_needless c ≡ c) × (tidied c ≡ c))) → IfOk r (λ answer. IsTrue answer ↔ KeepsItsDiffs c)
diffs_told c b (Ok answer) void met told = (
  λ e. let both = told.0 e in record { none_void = sym void ∙ met; none_needless = both.0; tidy = both.1 },
  λ k. told.1 (k.none_needless, k.tidy),
)
diffs_told c b (Err failed) void met told = tt
