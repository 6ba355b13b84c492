-- Constraints: the tests decide what they say; substitutions act on constraints as on facts; and a constraint is met by a
-- substitution exactly where it is met, under that substitution, by none.
use Rattle.std.proofs.Common.{◌≡◌, ◌↔◌, ◌⊎◌, ℕ, true, false, List, [], ◌∷◌, ◌++◌, map, refl, ap, sym, ◌∙◌, subst, inl, inr, eqb-true}
use Rattle.std.specs.Prelude.{flat_map}
use Rattle.std.specs.List.{AllByRecursion}
use mathlib.Core.Path.{fun_ext}
use Rattle.std.proofs.lemmas.List.{map-append}
use Rattle.std.proofs.lemmas.List.Concat.{flat_map-append}
use Rattle.spec_trees.specs.Tree.{Tree, Trees, Leaf, Node, none, more, bind, binds, after, trees}
use Rattle.spec_trees.specs.Leaves.{leaves, row_leaves}
use Rattle.spec_trees.proofs.Equality.{and_true, same_trees-sound, same_trees-refl}
use Rattle.spec_trees.proofs.Rows.{trees-injective}
use Rattle.spec_trees.proofs.Substitution.{bind-Leaf, bind-bind}
use Rattle.spec_terms.specs.Term.{Sym, Term, Subst, same_symbol}
use Rattle.spec_terms.proofs.Replace.{eqb_self}
use Rattle.spec_clauses.specs.Diff.{Slot, Own, Bound, Side, Diff, sides, own, diff_bind, slot_under, diff_under, slot_value, AreEqual, IsMetBy, CanBeEqual, IsNeverMet, own_of, side_slots, diff_variables, same_slot, same_sides, same_diff}
use Rattle.spec_clauses.specs.DiffDecision.{is_yes, equality_decided, can_be_equal, never_decided, is_never_met}
use Rattle.spec_clauses.proofs.Lists.{all_append, all_first, all_second}
use Rattle.spec_clauses.proofs.Equality.{same_symbol-decides}

-- A decision's answer is yes exactly where there is what it asks for.
yes_decides : {A : Type 0} (d : A ⊎ (A → ⊥)) → (is_yes d ≡ true) ↔ A
yes_decides (inl a) = (λ e. a, λ b. refl)
yes_decides (inr never) = (λ e. cc, λ a. absurd (never a))

pub can_be_equal-decides : (d : Diff) → (can_be_equal d ≡ true) ↔ CanBeEqual d
can_be_equal-decides d = yes_decides (equality_decided d)

pub is_never_met-decides : (d : Diff) → (is_never_met d ≡ true) ↔ IsNeverMet d
is_never_met-decides d = yes_decides (never_decided d)

-- so where the sides can't be equal, each substitution meets the constraint, and where it is never met, none does
pub unequal_met : (d : Diff) → can_be_equal d ≡ false → (s : Subst) → IsMetBy s d
unequal_met d e s b same = let yes : can_be_equal d ≡ true = (can_be_equal-decides d).1 (slot_value s b, same) in cc

same_slot-decides : (k l : Slot) → (same_slot k l ≡ true) ↔ (k ≡ l)
same_slot-decides k l = (sound k l, λ e. subst (λ (m : Slot). same_slot k m ≡ true) e (itself k)) where
  sound : (k l : Slot) → same_slot k l ≡ true → k ≡ l
  sound (Own x) (Own y) e = ap Own (eqb-true x y e)
  sound (Bound i) (Bound j) e = ap Bound (eqb-true i j e)
  sound (Own x) (Bound j) e = cc
  sound (Bound i) (Own y) e = cc

  itself : (k : Slot) → same_slot k k ≡ true
  itself (Own x) = eqb_self x
  itself (Bound i) = eqb_self i

same_sides-decides : (ts us : List Side) → (same_sides ts us ≡ true) ↔ (ts ≡ us)
same_sides-decides ts us =
    let itself = same_trees-refl same_slot same_symbol (λ k. (same_slot-decides k k).1 refl) (λ f. (same_symbol-decides f f).1 refl) (trees ts) in (
      λ e. trees-injective ts us (same_trees-sound same_slot same_symbol (λ k l. (same_slot-decides k l).0) (λ f g. (same_symbol-decides f g).0) (trees ts) (trees us) e),
      λ e. subst (λ (vs : List Side). same_sides ts vs ≡ true) e itself,
    )

pub same_diff-decides : (d e : Diff) → (same_diff d e ≡ true) ↔ (d ≡ e)
same_diff-decides d e = (
  λ same.
      let parts = and_true (same_sides d.left e.left) (same_sides d.right e.right) same in
      let left = (same_sides-decides d.left e.left).0 parts.0 in
      let right = (same_sides-decides d.right e.right).0 parts.1 in
      λ i. record { left = left i; right = right i },
  λ same.
      let left = (same_sides-decides d.left e.left).1 (ap (λ f. f.left) same) in
      let right = (same_sides-decides d.right e.right).1 (ap (λ f. f.right) same) in
      cc,
)

-- Maps of sides, one after another, and such as agree.
pub maps_after : {L M N : Type 0} (s : M → Tree N Sym) (t : L → Tree M Sym) (xs : List (Tree L Sym)) → map (bind s) (map (bind t) xs) ≡ map (bind (after s t)) xs
maps_after s t [] = refl
maps_after s t (x ∷ xs) = let first = bind-bind s t x in let others = maps_after s t xs in λ i. first i ∷ others i

pub maps_leaf : (xs : List Side) → map (bind Leaf) xs ≡ xs
maps_leaf [] = refl
maps_leaf (x ∷ xs) = let first = bind-Leaf x in let others = maps_leaf xs in λ i. first i ∷ others i

pub diff_bind-diff_bind : (f g : Slot → Side) (d : Diff) → diff_bind f (diff_bind g d) ≡ diff_bind (after f g) d
diff_bind-diff_bind f g d = λ i. record { left = maps_after f g d.left i; right = maps_after f g d.right i }

-- A term of the clause under a substitution, as a side.
pub own-under : (s : Subst) (t : Term) → bind (slot_under s) (own t) ≡ own (bind s t)
own-under s t = bind-bind (slot_under s) (λ x. Leaf (Own x)) t ∙ sym (bind-bind (λ x. Leaf (Own x)) s t)

slots_after : (s t : Subst) (k : Slot) → after (slot_under s) (slot_under t) k ≡ slot_under (after s t) k
slots_after s t (Own x) = own-under s (t x)
slots_after s t (Bound i) = refl

pub diff_under-diff_under : (s t : Subst) (d : Diff) → diff_under s (diff_under t d) ≡ diff_under (after s t) d
diff_under-diff_under s t d = diff_bind-diff_bind (slot_under s) (slot_under t) d ∙ ap (λ f. diff_bind f d) (fun_ext (slots_after s t))

slots_leaf : (k : Slot) → slot_under Leaf k ≡ Leaf k
slots_leaf (Own x) = refl
slots_leaf (Bound i) = refl

pub diff_under-Leaf : (d : Diff) → diff_under Leaf d ≡ d
diff_under-Leaf d = ap (λ f. diff_bind f d) (fun_ext slots_leaf) ∙ (λ i. record { left = maps_leaf d.left i; right = maps_leaf d.right i })

-- What holds of all variables of one kind, and of both.
pub all_own : (P : ℕ → Type 0) (Q : Slot → Type 0) → ((x : ℕ) → P x → Q (Own x)) → ((i : ℕ) → Q (Bound i)) → (ks : List Slot) → AllByRecursion P (flat_map own_of ks) → AllByRecursion Q ks
all_own P Q own_slots bound_slots [] a = tt
all_own P Q own_slots bound_slots (Own x ∷ ks) a = (own_slots x a.0, all_own P Q own_slots bound_slots ks a.1)
all_own P Q own_slots bound_slots (Bound i ∷ ks) a = (bound_slots i, all_own P Q own_slots bound_slots ks a)

-- Only what is made of the leaves at hand counts.
module _ {L M : Type 0} (f g : L → Tree M Sym) where
  mutual
    pub bind-alike : (t : Tree L Sym) → AllByRecursion (λ k. f k ≡ g k) (leaves t) → bind f t ≡ bind g t
    bind-alike (Leaf k) a = a.0
    bind-alike (Node h args) a = ap (Node h) (binds-alike args a)

    binds-alike : (ts : Trees L Sym) → AllByRecursion (λ k. f k ≡ g k) (row_leaves ts) → binds f ts ≡ binds g ts
    binds-alike none a = refl
    binds-alike (more t ts) a =
        let first = bind-alike t (all_first (λ k. f k ≡ g k) (leaves t) (row_leaves ts) a) in
        let others = binds-alike ts (all_second (λ k. f k ≡ g k) (leaves t) (row_leaves ts) a) in
        cc (first, others)

  pub maps-alike : (ts : List (Tree L Sym)) → AllByRecursion (λ k. f k ≡ g k) (flat_map leaves ts) → map (bind f) ts ≡ map (bind g) ts
  maps-alike [] a = refl
  maps-alike (t ∷ ts) a =
      let first = bind-alike t (all_first (λ k. f k ≡ g k) (leaves t) (flat_map leaves ts) a) in
      let others = maps-alike ts (all_second (λ k. f k ≡ g k) (leaves t) (flat_map leaves ts) a) in
      λ i. first i ∷ others i

-- the variables of both sides are those of the left ones and those of the right ones
pub both_sides : (P : Slot → Type 0) (d : Diff) → AllByRecursion P (side_slots (sides d)) → AllByRecursion P (side_slots d.left) × AllByRecursion P (side_slots d.right)
both_sides P d a =
    let apart = subst (AllByRecursion P) (flat_map-append leaves d.left d.right) a in
    (all_first P (side_slots d.left) (side_slots d.right) apart, all_second P (side_slots d.left) (side_slots d.right) apart)

pub diff_bind-alike : (f g : Slot → Side) (d : Diff) → AllByRecursion (λ k. f k ≡ g k) (side_slots (sides d)) → diff_bind f d ≡ diff_bind g d
diff_bind-alike f g d a =
    let (left, right) = both_sides (λ k. f k ≡ g k) d a in
    λ i. record { left = maps-alike f g d.left left i; right = maps-alike f g d.right right i }

pub diff_under-agree : (s t : Subst) (d : Diff) → AllByRecursion (λ x. s x ≡ t x) (diff_variables d) → diff_under s d ≡ diff_under t d
diff_under-agree s t d a = diff_bind-alike (slot_under s) (slot_under t) d (all_own (λ x. s x ≡ t x) (λ k. slot_under s k ≡ slot_under t k) (λ x e. ap own e) (λ i. refl) (side_slots (sides d)) a)

-- Lists of constraints, one substitution after another.
pub diffs_under-diffs_under : (s t : Subst) (ds : List Diff) → map (diff_under s) (map (diff_under t) ds) ≡ map (diff_under (after s t)) ds
diffs_under-diffs_under s t [] = refl
diffs_under-diffs_under s t (d ∷ ds) = let first = diff_under-diff_under s t d in let others = diffs_under-diffs_under s t ds in λ i. first i ∷ others i

pub diffs_under-Leaf : (ds : List Diff) → map (diff_under Leaf) ds ≡ ds
diffs_under-Leaf [] = refl
diffs_under-Leaf (d ∷ ds) = let first = diff_under-Leaf d in let others = diffs_under-Leaf ds in λ i. first i ∷ others i

pub diffs_under-agree : (s t : Subst) (ds : List Diff) → AllByRecursion (λ x. s x ≡ t x) (flat_map diff_variables ds) → map (diff_under s) ds ≡ map (diff_under t) ds
diffs_under-agree s t [] a = refl
diffs_under-agree s t (d ∷ ds) a =
    let first = diff_under-agree s t d (all_first (λ x. s x ≡ t x) (diff_variables d) (flat_map diff_variables ds) a) in
    let others = diffs_under-agree s t ds (all_second (λ x. s x ≡ t x) (diff_variables d) (flat_map diff_variables ds) a) in
    λ i. first i ∷ others i

-- What leaves a tree as it is leaves each of its leaves.
module _ {L : Type 0} (u : L → Tree L Sym) where
  mutual
    pub bind-fixed : (t : Tree L Sym) → bind u t ≡ t → AllByRecursion (λ k. u k ≡ Leaf k) (leaves t)
    bind-fixed (Leaf k) e = (e, tt)
    bind-fixed (Node f args) e = let row : binds u args ≡ args = cc in binds-fixed args row

    pub binds-fixed : (ts : Trees L Sym) → binds u ts ≡ ts → AllByRecursion (λ k. u k ≡ Leaf k) (row_leaves ts)
    binds-fixed none e = tt
    binds-fixed (more t ts) e =
        let here : bind u t ≡ t = cc in
        let others : binds u ts ≡ ts = cc in
        all_append (λ k. u k ≡ Leaf k) (leaves t) (row_leaves ts) (bind-fixed t here) (binds-fixed ts others)

  pub maps-fixed : (ts : List (Tree L Sym)) → map (bind u) ts ≡ ts → AllByRecursion (λ k. u k ≡ Leaf k) (flat_map leaves ts)
  maps-fixed [] e = tt
  maps-fixed (t ∷ ts) e =
      let here : bind u t ≡ t = cc in
      let others : map (bind u) ts ≡ ts = cc in
      all_append (λ k. u k ≡ Leaf k) (leaves t) (flat_map leaves ts) (bind-fixed t here) (maps-fixed ts others)

own_is_leaf : (t : Term) (x : ℕ) → own t ≡ Leaf (Own x) → t ≡ Leaf x
own_is_leaf (Leaf y) x e = cc
own_is_leaf (Node f args) x e = cc

fixed_own : (u : Subst) (ks : List Slot) → AllByRecursion (λ k. slot_under u k ≡ Leaf k) ks → AllByRecursion (λ x. u x ≡ Leaf x) (flat_map own_of ks)
fixed_own u [] a = tt
fixed_own u (Own x ∷ ks) a = (own_is_leaf (u x) x a.0, fixed_own u ks a.1)
fixed_own u (Bound i ∷ ks) a = fixed_own u ks a.1

pub diff_under-fixed : (u : Subst) (d : Diff) → diff_under u d ≡ d → AllByRecursion (λ x. u x ≡ Leaf x) (diff_variables d)
diff_under-fixed u d e =
    let all = map-append (bind (slot_under u)) d.left d.right ∙ (λ i. (e i).left ++ (e i).right) in
    fixed_own u (side_slots (sides d)) (maps-fixed (slot_under u) (sides d) all)

pub diffs_under-fixed : (u : Subst) (ds : List Diff) → map (diff_under u) ds ≡ ds → AllByRecursion (λ x. u x ≡ Leaf x) (flat_map diff_variables ds)
diffs_under-fixed u [] e = tt
diffs_under-fixed u (d ∷ ds) e =
    let here : diff_under u d ≡ d = cc in
    let others : map (diff_under u) ds ≡ ds = cc in
    all_append (λ x. u x ≡ Leaf x) (diff_variables d) (flat_map diff_variables ds) (diff_under-fixed u d here) (diffs_under-fixed u ds others)

-- Terms that make the sides equal under f are those that f and then these make equal.
pub equal_bound : (e : Slot → Term) (f : Slot → Side) (d : Diff) → AreEqual e (diff_bind f d) ↔ AreEqual (after e f) d
equal_bound e f d = (
  λ same. sym (maps_after e f d.left) ∙ (same ∙ maps_after e f d.right),
  λ same. maps_after e f d.left ∙ (same ∙ sym (maps_after e f d.right)),
)

own_value : (e : Subst) (b : Subst) (t : Term) → bind (slot_value e b) (own t) ≡ bind e t
own_value e b t = bind-bind (slot_value e b) (λ x. Leaf (Own x)) t

values_after : (r s b : Subst) (k : Slot) → after (slot_value r b) (slot_under s) k ≡ slot_value (after r s) b k
values_after r s b (Own x) = own_value r b (s x)
values_after r s b (Bound i) = refl

-- A constraint under s is met by r exactly where the constraint is met by s and then r.
pub met_under : (r s : Subst) (d : Diff) → IsMetBy r (diff_under s d) ↔ IsMetBy (after r s) d
met_under r s d = (
  λ met b same. met b ((equal_bound (slot_value r b) (slot_under s) d).1 (subst (λ (e : Slot → Term). AreEqual e d) (sym (fun_ext (values_after r s b))) same)),
  λ met b same. met b (subst (λ (e : Slot → Term). AreEqual e d) (fun_ext (values_after r s b)) ((equal_bound (slot_value r b) (slot_under s) d).0 same)),
)

-- So what meets it depends on the constraint under it alone.
pub met-alike : (s t : Subst) (d : Diff) → diff_under s d ≡ diff_under t d → IsMetBy s d → IsMetBy t d
met-alike s t d e met = subst (λ u. IsMetBy u d) (last t) ((met_under Leaf t d).0 (subst (IsMetBy Leaf) e ((met_under Leaf s d).1 (subst (λ u. IsMetBy u d) (sym (last s)) met)))) where
  last : (u : Subst) → after Leaf u ≡ u
  last u = fun_ext (λ x. bind-Leaf (u x))

-- A constraint that is never met is met by no substitution.
pub never_unmet : (d : Diff) → IsNeverMet d → (s : Subst) → IsMetBy s d → ⊥
never_unmet d never s met = met (after s never.0) (subst (λ (e : Slot → Term). AreEqual e d) (fun_ext values) same) where
  same : AreEqual (after s (slot_value Leaf never.0)) d
  same = sym (maps_after s (slot_value Leaf never.0) d.left) ∙ (ap (map (bind s)) never.1 ∙ maps_after s (slot_value Leaf never.0) d.right)

  values : (k : Slot) → after s (slot_value Leaf never.0) k ≡ slot_value s (after s never.0) k
  values (Own x) = refl
  values (Bound i) = refl
