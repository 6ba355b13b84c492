-- Constraints with their bound variables numbered: numbering keeps what a constraint says, is done once for all, goes through
-- substitutions, and adds no size.
use Rattle.std.proofs.Common.{◌≡◌, ◌↔◌, ℕ, ◌+◌, nat_eq, List, [], ◌∷◌, ◌++◌, map, get_or, refl, ap, sym, ◌∙◌}
use Rattle.std.specs.Prelude.{flat_map}
use Rattle.std.specs.List.{AllByRecursion}
use mathlib.Core.Path.{fun_ext}
use Rattle.std.proofs.lemmas.List.{map-append, append-nil}
use Rattle.std.proofs.lemmas.List.Concat.{flat_map-append}
use Rattle.spec_trees.specs.Tree.{Trees, Leaf, Node, none, more, bind, binds, after, trees, size, sizes}
use Rattle.spec_trees.specs.Leaves.{leaves, row_leaves}
use Rattle.spec_trees.proofs.Substitution.{bind-bind}
use Rattle.spec_terms.specs.Term.{Sym, Term, Subst}
use Rattle.spec_clauses.specs.Distinct.{distinct, place_of}
use Rattle.spec_clauses.specs.Diff.{Slot, Own, Bound, Side, Diff, sides, own, diff_bind, slot_under, diff_under, slot_value, AreEqual, IsMetBy, CanBeEqual, own_of, bound_of, side_slots, diff_variables, bound_variables, rebound, bound_place, numbered_diff, diff_size}
use Rattle.spec_clauses.specs.DiffDecision.{can_be_equal, is_never_met}
use Rattle.spec_clauses.specs.Renaming.{renaming}
use Rattle.spec_clauses.proofs.Equality.{tests_same}
use Rattle.spec_clauses.proofs.Distinct.{at_places}
use Rattle.spec_clauses.proofs.Renaming.{all_distinct, nat_eq-renamed, place_of-renamed, variables_distinct-renamed}
use Rattle.spec_clauses.proofs.Diffs.{diff_bind-diff_bind, diff_bind-alike, maps-alike, both_sides, equal_bound, can_be_equal-decides, is_never_met-decides}

-- One list of what each item of what each item gives gives.
flat_map-flat_map : {X Y Z : Type 0} (h : Y → List Z) (g : X → List Y) (xs : List X) → flat_map h (flat_map g xs) ≡ flat_map (λ x. flat_map h (g x)) xs
flat_map-flat_map h g [] = refl
flat_map-flat_map h g (x ∷ xs) = flat_map-append h (g x) (flat_map g xs) ∙ ap (λ zs. flat_map h (g x) ++ zs) (flat_map-flat_map h g xs)

flat_map-same : {X Z : Type 0} (g h : X → List Z) → ((x : X) → g x ≡ h x) → (xs : List X) → flat_map g xs ≡ flat_map h xs
flat_map-same {X} {Z} g h same xs = ap (λ (f : X → List Z). flat_map f xs) (fun_ext same)

flat_map-renamed : {X : Type 0} (r : ℕ → ℕ) (h : X → List ℕ) (xs : List X) → flat_map (λ x. map r (h x)) xs ≡ map r (flat_map h xs)
flat_map-renamed r h [] = refl
flat_map-renamed r h (x ∷ xs) = ap (λ ys. map r (h x) ++ ys) (flat_map-renamed r h xs) ∙ sym (map-append r (h x) (flat_map h xs))

-- The variables of what is made of sides are those of what is made of their variables.
module _ (f : Slot → Side) where
  mutual
    leaves-bind : (t : Side) → leaves (bind f t) ≡ flat_map (λ k. leaves (f k)) (leaves t)
    leaves-bind (Leaf k) = sym (append-nil (leaves (f k)))
    leaves-bind (Node g args) = row_leaves-binds args

    row_leaves-binds : (ts : Trees Slot Sym) → row_leaves (binds f ts) ≡ flat_map (λ k. leaves (f k)) (row_leaves ts)
    row_leaves-binds none = refl
    row_leaves-binds (more t ts) = (λ i. leaves-bind t i ++ row_leaves-binds ts i) ∙ sym (flat_map-append (λ k. leaves (f k)) (leaves t) (row_leaves ts))

  slots-bind : (ts : List Side) → side_slots (map (bind f) ts) ≡ flat_map (λ k. leaves (f k)) (side_slots ts)
  slots-bind [] = refl
  slots-bind (t ∷ ts) = (λ i. leaves-bind t i ++ slots-bind ts i) ∙ sym (flat_map-append (λ k. leaves (f k)) (leaves t) (side_slots ts))

  -- so those of a kind, where h tells which of a variable's are
  kind-bind : (h : Slot → List ℕ) (d : Diff) → flat_map h (side_slots (sides (diff_bind f d))) ≡ flat_map (λ k. flat_map h (leaves (f k))) (side_slots (sides d))
  kind-bind h d =
      ap (λ ts. flat_map h (side_slots ts)) (sym (map-append (bind f) d.left d.right))
      ∙ (ap (flat_map h) (slots-bind (sides d)) ∙ flat_map-flat_map h (λ k. leaves (f k)) (side_slots (sides d)))

-- A term of the clause has no bound variables.
mutual
  none_bound : (t : Term) → flat_map bound_of (leaves (own t)) ≡ []
  none_bound (Leaf x) = refl
  none_bound (Node f args) = none_bound_row args

  none_bound_row : (ts : Trees ℕ Sym) → flat_map bound_of (row_leaves (binds (λ x. Leaf (Own x)) ts)) ≡ []
  none_bound_row none = refl
  none_bound_row (more t ts) = flat_map-append bound_of (leaves (own t)) (row_leaves (binds (λ x. Leaf (Own x)) ts)) ∙ (λ i. none_bound t i ++ none_bound_row ts i)

pub bound-under : (s : Subst) (d : Diff) → bound_variables (diff_under s d) ≡ bound_variables d
bound-under s d = kind-bind (slot_under s) bound_of d ∙ flat_map-same (λ k. flat_map bound_of (leaves (slot_under s k))) bound_of same (side_slots (sides d)) where
  same : (k : Slot) → flat_map bound_of (leaves (slot_under s k)) ≡ bound_of k
  same (Own x) = none_bound (s x)
  same (Bound i) = refl

pub bound-rebound : (r : ℕ → ℕ) (d : Diff) → bound_variables (diff_bind (rebound r) d) ≡ map r (bound_variables d)
bound-rebound r d = kind-bind (rebound r) bound_of d ∙ (flat_map-same (λ k. flat_map bound_of (leaves (rebound r k))) (λ k. map r (bound_of k)) same (side_slots (sides d)) ∙ flat_map-renamed r bound_of (side_slots (sides d))) where
  same : (k : Slot) → flat_map bound_of (leaves (rebound r k)) ≡ map r (bound_of k)
  same (Own x) = refl
  same (Bound i) = refl

pub own-rebound : (r : ℕ → ℕ) (d : Diff) → diff_variables (diff_bind (rebound r) d) ≡ diff_variables d
own-rebound r d = kind-bind (rebound r) own_of d ∙ flat_map-same (λ k. flat_map own_of (leaves (rebound r k))) own_of same (side_slots (sides d)) where
  same : (k : Slot) → flat_map own_of (leaves (rebound r k)) ≡ own_of k
  same (Own x) = refl
  same (Bound i) = refl

pub own-renamed : (r : ℕ → ℕ) (d : Diff) → diff_variables (diff_under (renaming r) d) ≡ map r (diff_variables d)
own-renamed r d = kind-bind (slot_under (renaming r)) own_of d ∙ (flat_map-same (λ k. flat_map own_of (leaves (slot_under (renaming r) k))) (λ k. map r (own_of k)) same (side_slots (sides d)) ∙ flat_map-renamed r own_of (side_slots (sides d))) where
  same : (k : Slot) → flat_map own_of (leaves (slot_under (renaming r) k)) ≡ map r (own_of k)
  same (Own x) = refl
  same (Bound i) = refl

-- Numbering goes through substitutions.
pub numbered-under : (s : Subst) (d : Diff) → numbered_diff (diff_under s d) ≡ diff_under s (numbered_diff d)
numbered-under s d =
    let p = bound_place d in
    ap (λ xs. diff_bind (rebound (λ i. place_of i (distinct nat_eq xs))) (diff_under s d)) (bound-under s d)
    ∙ (diff_bind-diff_bind (rebound p) (slot_under s) d ∙ (ap (λ f. diff_bind f d) (fun_ext (commute p)) ∙ sym (diff_bind-diff_bind (slot_under s) (rebound p) d))) where
      commute : (p : ℕ → ℕ) (k : Slot) → after (rebound p) (slot_under s) k ≡ after (slot_under s) (rebound p) k
      commute p (Own x) = bind-bind (rebound p) (λ y. Leaf (Own y)) (s x)
      commute p (Bound i) = refl

-- What holds of all bound variables, and of each of the clause's, holds of all.
all_bound : (P : ℕ → Type 0) (Q : Slot → Type 0) → ((x : ℕ) → Q (Own x)) → ((i : ℕ) → P i → Q (Bound i)) → (ks : List Slot) → AllByRecursion P (flat_map bound_of ks) → AllByRecursion Q ks
all_bound P Q own_slots bound_slots [] a = tt
all_bound P Q own_slots bound_slots (Own x ∷ ks) a = (own_slots x, all_bound P Q own_slots bound_slots ks a)
all_bound P Q own_slots bound_slots (Bound i ∷ ks) a = (bound_slots i a.0, all_bound P Q own_slots bound_slots ks a.1)

-- some terms for the bound variables make the sides equal under s
abbrev pub IsBoundEqual : Subst → Diff → Type 0
IsBoundEqual s d = (b : Subst) × AreEqual (slot_value s b) d

pub equal-alike : (e g : Slot → Term) (d : Diff) → AllByRecursion (λ k. e k ≡ g k) (side_slots (sides d)) → AreEqual e d → AreEqual g d
equal-alike e g d a same = let (left, right) = both_sides (λ k. e k ≡ g k) d a in sym (maps-alike e g d.left left) ∙ (same ∙ maps-alike e g d.right right)

-- Bound variables may be renamed, where q leads back.
module _ (q r : ℕ → ℕ) (d : Diff) (back : AllByRecursion (λ i. q (r i) ≡ i) (bound_variables d)) where
  pub numbered-rebound : numbered_diff (diff_bind (rebound r) d) ≡ numbered_diff d
  numbered-rebound =
      let is = bound_variables d in
      let kept = all_distinct nat_eq nat_eq r (λ x. q (r x) ≡ x) (λ x y b e. nat_eq-renamed q r x y b e) is back in
      let order : distinct nat_eq (bound_variables (diff_bind (rebound r) d)) ≡ map r (distinct nat_eq is) = ap (distinct nat_eq) (bound-rebound r d) ∙ variables_distinct-renamed q r is back in
      let places = all_bound (λ i. q (r i) ≡ i) (λ k. after (rebound (λ j. place_of j (map r (distinct nat_eq is)))) (rebound r) k ≡ rebound (bound_place d) k) (λ x. refl)
      (λ i e. ap (λ n. Leaf (Bound n)) (place_of-renamed q r i (distinct nat_eq is) e kept)) (side_slots (sides d)) back in
      ap (λ js. diff_bind (rebound (λ j. place_of j js)) (diff_bind (rebound r) d)) order
      ∙ (diff_bind-diff_bind (rebound (λ j. place_of j (map r (distinct nat_eq is)))) (rebound r) d
      ∙ diff_bind-alike (after (rebound (λ j. place_of j (map r (distinct nat_eq is)))) (rebound r)) (rebound (bound_place d)) d places)

  pub equal-rebound : (s : Subst) → IsBoundEqual s (diff_bind (rebound r) d) ↔ IsBoundEqual s d
  equal-rebound s = (
    λ h. (λ i. h.0 (r i), equal-alike (after (slot_value s h.0) (rebound r)) (slot_value s (λ i. h.0 (r i))) d (forth h.0) ((equal_bound (slot_value s h.0) (rebound r) d).0 h.1)),
    λ h. (λ j. h.0 (q j), (equal_bound (slot_value s (λ j. h.0 (q j))) (rebound r) d).1 (equal-alike (slot_value s h.0) (after (slot_value s (λ j. h.0 (q j))) (rebound r)) d (returns h.0) h.1)),
  ) where
    forth : (b : Subst) → AllByRecursion (λ k. after (slot_value s b) (rebound r) k ≡ slot_value s (λ i. b (r i)) k) (side_slots (sides d))
    forth b = all_bound (λ i. q (r i) ≡ i) (λ k. after (slot_value s b) (rebound r) k ≡ slot_value s (λ i. b (r i)) k) (λ x. refl) (λ i e. refl) (side_slots (sides d)) back

    returns : (b : Subst) → AllByRecursion (λ k. slot_value s b k ≡ after (slot_value s (λ j. b (q j))) (rebound r) k) (side_slots (sides d))
    returns b = all_bound (λ i. q (r i) ≡ i) (λ k. slot_value s b k ≡ after (slot_value s (λ j. b (q j))) (rebound r) k) (λ x. refl) (λ i e. ap b (sym e)) (side_slots (sides d)) back

-- the way back from the numbers
bound_back : Diff → ℕ → ℕ
bound_back d n = get_or (distinct nat_eq (bound_variables d)) n 0

numbers_back : (d : Diff) → AllByRecursion (λ i. bound_back d (bound_place d i) ≡ i) (bound_variables d)
unfolding bound_back
numbers_back d = at_places (bound_variables d)

pub numbered-numbered : (d : Diff) → numbered_diff (numbered_diff d) ≡ numbered_diff d
numbered-numbered d = numbered-rebound (bound_back d) (bound_place d) d (numbers_back d)

pub equal-numbered : (s : Subst) (d : Diff) → IsBoundEqual s (numbered_diff d) ↔ IsBoundEqual s d
equal-numbered s d = equal-rebound (bound_back d) (bound_place d) d (numbers_back d) s

pub met-numbered : (s : Subst) (d : Diff) → IsMetBy s (numbered_diff d) ↔ IsMetBy s d
met-numbered s d = (
  λ met b e. let h = (equal-numbered s d).1 (b, e) in met h.0 h.1,
  λ met b e. let h = (equal-numbered s d).0 (b, e) in met h.0 h.1,
)

-- The tests of a numbered constraint answer as those of the constraint.
pub never-numbered : (d : Diff) → is_never_met (numbered_diff d) ≡ is_never_met d
never-numbered d =
    let n = numbered_diff d in
    tests_same (is_never_met n) (is_never_met d)
    (λ e. (is_never_met-decides d).1 ((equal-numbered Leaf d).0 ((is_never_met-decides n).0 e)))
    (λ e. (is_never_met-decides n).1 ((equal-numbered Leaf d).1 ((is_never_met-decides d).0 e)))

-- terms for all variables are terms for either kind
as_values : (e : Slot → Term) (k : Slot) → e k ≡ slot_value (λ x. e (Own x)) (λ i. e (Bound i)) k
as_values e (Own x) = refl
as_values e (Bound i) = refl

can-numbered : (d n : Diff) → ((s : Subst) → IsBoundEqual s d → IsBoundEqual s n) → CanBeEqual d → CanBeEqual n
can-numbered d n gives h =
    let s = λ (x : ℕ). h.0 (Own x) in
    let found = gives s (λ i. h.0 (Bound i), same) in
    (slot_value s found.0, found.1) where
      same : AreEqual (slot_value (λ x. h.0 (Own x)) (λ i. h.0 (Bound i))) d
      same = let e = fun_ext (as_values h.0) in (λ i. map (bind (sym e i)) d.left) ∙ (h.1 ∙ (λ i. map (bind (e i)) d.right))

pub equality-numbered : (d : Diff) → can_be_equal (numbered_diff d) ≡ can_be_equal d
equality-numbered d =
    let n = numbered_diff d in
    tests_same (can_be_equal n) (can_be_equal d)
    (λ e. (can_be_equal-decides d).1 (can-numbered n d (λ s. (equal-numbered s d).0) ((can_be_equal-decides n).0 e)))
    (λ e. (can_be_equal-decides n).1 (can-numbered d n (λ s. (equal-numbered s d).1) ((can_be_equal-decides d).0 e)))

-- Sizes stay where each variable gives way to one.
module _ (f : Slot → Side) (one : (k : Slot) → size (f k) ≡ 1) where
  mutual
    size-kept : (t : Side) → size (bind f t) ≡ size t
    size-kept (Leaf k) = one k
    size-kept (Node g args) = ap (λ n. 1 + n) (sizes-kept args)

    sizes-kept : (ts : Trees Slot Sym) → sizes (binds f ts) ≡ sizes ts
    sizes-kept none = refl
    sizes-kept (more t ts) = cc (size-kept t, sizes-kept ts)

  all_sizes-kept : (ts : List Side) → sizes (trees (map (bind f) ts)) ≡ sizes (trees ts)
  all_sizes-kept [] = refl
  all_sizes-kept (t ∷ ts) = λ i. size-kept t i + all_sizes-kept ts i

  pub diff_size-kept : (d : Diff) → diff_size (diff_bind f d) ≡ diff_size d
  diff_size-kept d = ap (λ ts. 1 + sizes (trees ts)) (sym (map-append (bind f) d.left d.right)) ∙ ap (λ n. 1 + n) (all_sizes-kept (sides d))

pub size-numbered : (d : Diff) → diff_size (numbered_diff d) ≡ diff_size d
size-numbered d = diff_size-kept (rebound (bound_place d)) one d where
  one : (k : Slot) → size (rebound (bound_place d) k) ≡ 1
  one (Own x) = refl
  one (Bound i) = refl

pub diff_size-renamed : (r : ℕ → ℕ) (d : Diff) → diff_size (diff_under (renaming r) d) ≡ diff_size d
diff_size-renamed r d = diff_size-kept (slot_under (renaming r)) one d where
  one : (k : Slot) → size (slot_under (renaming r) k) ≡ 1
  one (Own x) = refl
  one (Bound i) = refl

-- nor does it change the clause's variables
pub own-numbered : (d : Diff) → diff_variables (numbered_diff d) ≡ diff_variables d
own-numbered d = own-rebound (bound_place d) d
