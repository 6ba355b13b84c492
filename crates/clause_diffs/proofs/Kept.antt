-- Constraints that are as the norm has them: numbered, and none twice.
use Rattle.std.proofs.Common.{◌≡◌, ◌↔◌, ℕ, zero, suc, ◌+◌, ◌-◌, ◌<◌, ◌≤◌, Bool, true, false, not, ◌||◌, ◌&&◌, nat_eq, List, [], ◌∷◌, ◌++◌, length, map, flat_map, take, drop, get_or, refl, ap, sym, ◌∙◌, subst, Result, Ok, Err, IfOk, IsTrue, add-one, drop-cons, drop_of_length-le, eqb-true, eq-eqb}
use Rattle.std.specs.List.{AllByRecursion, IsDistinct, list_any, list_all}
use Rattle.std.specs.declared.alloc.AllocError.{AllocError}
use Rattle.std.proofs.lemmas.Bool.{false≢true}
use Rattle.spec_trees.specs.Tree.{Leaf, bind}
use Rattle.spec_trees.proofs.Equality.{and_true}
use Rattle.spec_terms.specs.Term.{Term}
use Rattle.spec_clauses.specs.Diff.{Slot, Own, Bound, Diff, sides, slot_under, bound_of, side_slots, bound_variables, rebound, bound_place, numbered_diff, same_diff}
use Rattle.spec_clauses.specs.Distinct.{distinct, place_of}
use Rattle.spec_clauses.proofs.Distinct.{distinct-distinct, distinct-fixed}
use Rattle.spec_clauses.proofs.Diffs.{diff_bind-alike, diff_under-Leaf, maps-fixed}
use Rattle.spec_clauses.proofs.DiffNumbering.{numbered-numbered}
use Rattle.spec_clauses.proofs.Lists.{all_filter, all_of_test, all_weaker}
use Rattle.std.proofs.lemmas.List.{map-append, take_rest}
use Rattle.term_tree.specs.declared.bank.Id.{Id}
use Rattle.clause_diffs.specs.Diffs.{DiffOf, diff_at, diffs_at, AreDiffsIn}
use Rattle.clause_diffs.specs.Needed.{differ}

-- A constraint is numbered where each of its bound variables is its own place.
test_all : {X : Type 0} (p : X → Bool) (xs : List X) → AllByRecursion (λ x. p x ≡ true) xs → list_all p xs ≡ true
test_all p [] a = refl
test_all p (x ∷ xs) a = ap (λ b. b && list_all p xs) a.0 ∙ test_all p xs a.1

all_bound : (Q : Slot → Type 0) (P : ℕ → Type 0) → ((x : ℕ) → Q (Own x)) → ((i : ℕ) → P i → Q (Bound i)) → (ks : List Slot) → AllByRecursion P (flat_map bound_of ks) → AllByRecursion Q ks
all_bound Q P own_slots bound_slots [] a = tt
all_bound Q P own_slots bound_slots (Own x ∷ ks) a = (own_slots x, all_bound Q P own_slots bound_slots ks a)
all_bound Q P own_slots bound_slots (Bound i ∷ ks) a = (bound_slots i a.0, all_bound Q P own_slots bound_slots ks a.1)

of_bound : (p : ℕ → ℕ) (ks : List Slot) → AllByRecursion (λ k. rebound p k ≡ Leaf k) ks → AllByRecursion (λ i. p i ≡ i) (flat_map bound_of ks)
of_bound p [] a = tt
of_bound p (Own x ∷ ks) a = of_bound p ks a.1
of_bound p (Bound i ∷ ks) a = let same = a.0 in (cc, of_bound p ks a.1)

places_kept : (d : Diff) → AllByRecursion (λ i. bound_place d i ≡ i) (bound_variables d) → numbered_diff d ≡ d
places_kept d a =
    diff_bind-alike (rebound (bound_place d)) (slot_under Leaf) d (all_bound (λ k. rebound (bound_place d) k ≡ slot_under Leaf k) (λ i. bound_place d i ≡ i) (λ x. refl) (λ i e. ap (λ n. Leaf (Bound n)) e) (side_slots (sides d)) a)
    ∙ diff_under-Leaf d

kept_places : (d : Diff) → numbered_diff d ≡ d → AllByRecursion (λ i. bound_place d i ≡ i) (bound_variables d)
kept_places d e =
    let all = map-append (bind (rebound (bound_place d))) d.left d.right ∙ (λ i. (e i).left ++ (e i).right) in
    of_bound (bound_place d) (side_slots (sides d)) (maps-fixed (rebound (bound_place d)) (sides d) all)

pub numbered_told : (d : Diff) (order : List ℕ) (numbers : List ℕ) (b : Bool) → order ≡ distinct nat_eq (bound_variables d) → numbers ≡ bound_variables d → b ≡ list_all (λ i. nat_eq (place_of i order) i) numbers → IsTrue b ↔ (numbered_diff d ≡ d)
numbered_told d order numbers b is_order are e =
    let told : b ≡ list_all (λ i. nat_eq (bound_place d i) i) (bound_variables d) = e ∙ (λ k. list_all (λ i. nat_eq (place_of i (is_order k)) i) (are k)) in (
      λ passed. places_kept d (all_weaker (λ i. nat_eq (bound_place d i) i ≡ true) (λ i. bound_place d i ≡ i) (λ i f. eqb-true (bound_place d i) i f) (bound_variables d) (all_of_test (λ i. nat_eq (bound_place d i) i) (bound_variables d) (sym told ∙ passed))),
      λ same. told ∙ test_all (λ i. nat_eq (bound_place d i) i) (bound_variables d) (all_weaker (λ i. bound_place d i ≡ i) (λ i. nat_eq (bound_place d i) i ≡ true) (λ i f. eq-eqb (bound_place d i) i f) (bound_variables d) (kept_places d same)),
    )

-- What is left of constraints from the one at i on.
diffs_drop : (all : List Term) (ds : List (DiffOf Id)) (i : ℕ) (d : DiffOf Id) → i < length ds → d ≡ get_or ds i d → diffs_at all (drop i ds) ≡ diff_at all d ∷ diffs_at all (drop (i + 1) ds)
diffs_drop all ds i d within is =
    ap (diffs_at all) (drop-cons ds i d within) ∙ ((λ k. diff_at all (sym is k) ∷ diffs_at all (drop (suc i) ds)) ∙ ap (λ n. diff_at all d ∷ diffs_at all (drop n ds)) (sym (add-one i)))

abbrev pub AreNumbered : List Diff → Type 0
AreNumbered ds = map numbered_diff ds ≡ ds

pub numbered_fails : (all : List Term) (ds : List (DiffOf Id)) (i : ℕ) (d : DiffOf Id) → i < length ds → d ≡ get_or ds i d → (AreNumbered (diffs_at all ds) → AreNumbered (diffs_at all (drop i ds))) → (numbered_diff (diff_at all d) ≡ diff_at all d → ⊥) → AreNumbered (diffs_at all ds) → ⊥
numbered_fails all ds i d within is forth differs e =
    let rest : numbered_diff (diff_at all d) ∷ map numbered_diff (diffs_at all (drop (i + 1) ds)) ≡ diff_at all d ∷ diffs_at all (drop (i + 1) ds) = subst AreNumbered (diffs_drop all ds i d within is) (forth e) in
    differs cc

pub numbered_next : (all : List Term) (ds : List (DiffOf Id)) (i : ℕ) (d : DiffOf Id) → i < length ds → d ≡ get_or ds i d → AreNumbered (diffs_at all ds) ↔ AreNumbered (diffs_at all (drop i ds)) → numbered_diff (diff_at all d) ≡ diff_at all d → AreNumbered (diffs_at all ds) ↔ AreNumbered (diffs_at all (drop (i + 1) ds))
numbered_next all ds i d within is was here = (
  λ e. let rest : numbered_diff (diff_at all d) ∷ map numbered_diff (diffs_at all (drop (i + 1) ds)) ≡ diff_at all d ∷ diffs_at all (drop (i + 1) ds) = subst AreNumbered (diffs_drop all ds i d within is) (was.0 e) in cc,
  λ e. was.1 (subst AreNumbered (sym (diffs_drop all ds i d within is)) (λ k. here k ∷ e k)),
)

-- No constraint is the same as a later one where the list is distinct.
none_any : {X : Type 0} (p : X → Bool) (xs : List X) → not (list_any p xs) ≡ true → AllByRecursion (λ x. p x ≡ false) xs
none_any p [] e = tt
none_any p (x ∷ xs) e = go (p x) refl e (none_any p xs) where
  go : (b : Bool) → p x ≡ b → not (b || list_any p xs) ≡ true → (not (list_any p xs) ≡ true → AllByRecursion (λ y. p y ≡ false) xs) → (p x ≡ false) × AllByRecursion (λ y. p y ≡ false) xs
  go true f e later = absurd (false≢true e)
  go false f e later = (f, later e)

any_none : {X : Type 0} (p : X → Bool) (xs : List X) → AllByRecursion (λ x. p x ≡ false) xs → not (list_any p xs) ≡ true
any_none p [] a = refl
any_none p (x ∷ xs) a = ap (λ b. not (b || list_any p xs)) a.0 ∙ any_none p xs a.1

distinct_of : (ds : List Diff) → differ ds ≡ true → IsDistinct same_diff ds
unfolding IsDistinct
distinct_of [] e = tt
distinct_of (d ∷ ds) e = let parts = and_true (not (list_any (same_diff d) ds)) (differ ds) e in (none_any (same_diff d) ds parts.0, distinct_of ds parts.1)

of_distinct : (ds : List Diff) → IsDistinct same_diff ds → differ ds ≡ true
unfolding IsDistinct
of_distinct [] a = refl
of_distinct (d ∷ ds) a = ap (λ b. b && differ ds) (any_none (same_diff d) ds a.0) ∙ of_distinct ds a.1

-- So constraints are tidy where no two are the same and each is numbered.
abbrev AreTidy : List Diff → Type 0
AreTidy ds = distinct same_diff (map numbered_diff ds) ≡ ds

all_left : (P : Diff → Type 0) (ds : List Diff) → AllByRecursion P ds → AllByRecursion P (distinct same_diff ds)
all_left P [] a = tt
all_left P (d ∷ ds) a = (a.0, all_filter P (λ e. not (same_diff d e)) (distinct same_diff ds) (all_left P ds a.1))

all_numbered : (ds : List Diff) → AllByRecursion (λ d. numbered_diff d ≡ d) (map numbered_diff ds)
all_numbered [] = tt
all_numbered (d ∷ ds) = (numbered-numbered d, all_numbered ds)

each_numbered : (ds : List Diff) → AllByRecursion (λ d. numbered_diff d ≡ d) ds → map numbered_diff ds ≡ ds
each_numbered [] a = refl
each_numbered (d ∷ ds) a = let first = a.0 in let others = each_numbered ds a.1 in λ i. first i ∷ others i

tidy_differ : (ds : List Diff) → AreTidy ds → differ ds ≡ true
tidy_differ ds e = of_distinct ds (subst (IsDistinct same_diff) e (distinct-distinct same_diff (map numbered_diff ds)))

tidy_numbered : (ds : List Diff) → AreTidy ds → map numbered_diff ds ≡ ds
tidy_numbered ds e = each_numbered ds (subst (AllByRecursion (λ d. numbered_diff d ≡ d)) e (all_left (λ d. numbered_diff d ≡ d) (map numbered_diff ds) (all_numbered ds)))

pub tidy_not : (ds : List Diff) (b : Bool) → b ≡ differ ds → b ≡ false → AreTidy ds → ⊥
tidy_not ds b told fails e = false≢true (sym fails ∙ (told ∙ tidy_differ ds e))

pub tidy_told : (ds : List Diff) (b : Bool) (r : Result Bool AllocError) → b ≡ differ ds → b ≡ true → IfOk r (λ c. IsTrue c ↔ (map numbered_diff ds ≡ ds)) → IfOk r (λ c. IsTrue c ↔ (distinct same_diff (map numbered_diff ds) ≡ ds))
tidy_told ds b (Ok c) told passed numbered = (
  λ f. ap (distinct same_diff) (numbered.0 f) ∙ distinct-fixed same_diff ds (distinct_of ds (sym told ∙ passed)),
  λ e. numbered.1 (tidy_numbered ds e),
)
tidy_told ds b (Err x) told passed numbered = tt

-- Constraints behind a place: they are known, and the one at the place is compared with them.
known_drop : (all : List Term) (ds : List (DiffOf Id)) (i : ℕ) → AreDiffsIn all ds → AreDiffsIn all (drop i ds)
known_drop all ds zero known = known
known_drop all [] (suc i) known = known
known_drop all (d ∷ ds) (suc i) known = known_drop all ds i known.1

pub rest_known : (all : List Term) (ds : List (DiffOf Id)) (i : ℕ) → AreDiffsIn all ds → AreDiffsIn all (take (length ds - i) (drop i ds))
rest_known all ds i known = subst (λ (l : List (DiffOf Id)). AreDiffsIn all l) (sym (take_rest ds i)) (known_drop all ds i known)

pub differ_on : (all : List Term) (ds : List (DiffOf Id)) (i : ℕ) (d : DiffOf Id) (among : Bool) → i < length ds → d ≡ get_or ds i d → among ≡ list_any (same_diff (diff_at all d)) (diffs_at all (take (length ds - (i + 1)) (drop (i + 1) ds)))
    → differ (diffs_at all (drop i ds)) ≡ (not among && differ (diffs_at all (drop (i + 1) ds)))
differ_on all ds i d among within is told =
    ap differ (diffs_drop all ds i d within is)
    ∙ ap (λ b. not b && differ (diffs_at all (drop (i + 1) ds))) (sym (told ∙ ap (λ l. list_any (same_diff (diff_at all d)) (diffs_at all l)) (take_rest ds (i + 1))))

pub numbered_end : (all : List Term) (ds : List (DiffOf Id)) (i : ℕ) → length ds ≤ i → AreNumbered (diffs_at all (drop i ds))
numbered_end all ds i past = subst (λ (l : List (DiffOf Id)). AreNumbered (diffs_at all l)) (sym (drop_of_length-le ds past)) refl
