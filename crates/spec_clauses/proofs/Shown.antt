-- Constraints written in terms: what substitutions make of them, and what unification tells of them.
use Rattle.std.proofs.Common.{◌≡◌, ◌↔◌, ℕ, ◌+◌, ◌-◌, ◌<◌, ◌≤◌, Bool, true, false, ◌&&◌, ◌||◌, cond, nat_eq, List, [], ◌∷◌, map, refl, ap, sym, ◌∙◌, subst, arith, eqb-true, lt-ltb, le-ltb}
use Rattle.std.specs.Prelude.{nat_lt, flat_map}
use Rattle.std.specs.List.{AllByRecursion, list_any}
use Rattle.std.proofs.lemmas.Bool.{or_left, or_right}
use borrow.Author.Tests.{ltb-true, ltb-false}
use Rattle.std.proofs.lemmas.List.Concat.{flat_map-append}
use Rattle.spec_trees.specs.Tree.{Leaf, Node, bind, after}
use Rattle.spec_terms.specs.Term.{Term, Subst}
use Rattle.spec_terms.specs.Unifier.{UnifiesAll, IsMostGeneral}
use Rattle.spec_terms.proofs.Replace.{eqb_self}
use Rattle.spec_clauses.specs.Fact.{same_term}
use Rattle.spec_clauses.specs.Diff.{Slot, Own, Bound, own, slot_under, diff_under, slot_value, AreEqual, CanBeEqual, IsNeverMet}
use Rattle.spec_clauses.specs.Variables.{leaves, IsBelow}
use Rattle.spec_clauses.specs.Shown.{Shown, slot_shown, diff_shown, shown_variables, lifted, shown_under, IsOwnIn, TellsApart}
use Rattle.spec_clauses.proofs.Lists.{all_first, all_second, all_weaker, all_each}
use Rattle.spec_clauses.proofs.Equality.{same_term-decides}
use Rattle.spec_clauses.proofs.Distinct.{stand_all}
use Rattle.spec_clauses.proofs.Diffs.{maps_after, bind-alike, maps-alike}

-- The variables of both lists are those of the left and those of the right terms.
both_lists : (P : ℕ → Type 0) (d : Shown) → AllByRecursion P (shown_variables d) → AllByRecursion P (flat_map leaves d.left) × AllByRecursion P (flat_map leaves d.right)
both_lists P d a =
    let apart = subst (AllByRecursion P) (flat_map-append leaves d.left d.right) a in
    (all_first P (flat_map leaves d.left) (flat_map leaves d.right) apart, all_second P (flat_map leaves d.left) (flat_map leaves d.right) apart)

slot_own : (first x : ℕ) → x < first → slot_shown first x ≡ Own x
slot_own first x l = rw (lt-ltb x first l) refl

slot_bound : (first i : ℕ) → slot_shown first (i + first) ≡ Bound i
slot_bound first i = let over : first ≤ i + first = omega arith in let back : (i + first) - first ≡ i = omega arith in rw (le-ltb (i + first) first over) (ap Bound back)

-- A term whose variables are below a number, written so, is that of the clause.
shown_own : (first : ℕ) (t : Term) → IsBelow first t → bind (λ y. Leaf (slot_shown first y)) t ≡ own t
shown_own first t below = bind-alike (λ y. Leaf (slot_shown first y)) (λ y. Leaf (Own y)) t (all_weaker (λ y. y < first) (λ y. Leaf (slot_shown first y) ≡ Leaf (Own y)) (λ y l. ap Leaf (slot_own first y l)) (leaves t) below)

-- What is written under a substitution, with bound variables above all that it puts in, is the constraint under it.
module _ (s : Subst) (first next : ℕ) where
  lifted_slot : (x : ℕ) → (x < first → IsBelow next (s x)) → after (λ y. Leaf (slot_shown next y)) (lifted s first next) x ≡ after (slot_under s) (λ y. Leaf (slot_shown first y)) x
  lifted_slot x below = go (nat_lt x first) refl where
    go : (b : Bool) → nat_lt x first ≡ b → bind (λ y. Leaf (slot_shown next y)) (cond b (s x) (Leaf ((x - first) + next))) ≡ slot_under s (cond b (Own x) (Bound (x - first)))
    go true e = shown_own next (s x) (below (ltb-true x first e))
    go false e = ap Leaf (slot_bound next (x - first))

  lifted_terms : (ts : List Term) → AllByRecursion (λ x. x < first → IsBelow next (s x)) (flat_map leaves ts) → map (bind (λ y. Leaf (slot_shown next y))) (map (bind (lifted s first next)) ts) ≡ map (bind (slot_under s)) (map (bind (λ y. Leaf (slot_shown first y))) ts)
  lifted_terms ts below =
      maps_after (λ y. Leaf (slot_shown next y)) (lifted s first next) ts
      ∙ (maps-alike (after (λ y. Leaf (slot_shown next y)) (lifted s first next)) (after (slot_under s) (λ y. Leaf (slot_shown first y))) ts (all_weaker (λ x. x < first → IsBelow next (s x)) (λ x. after (λ y. Leaf (slot_shown next y)) (lifted s first next) x ≡ after (slot_under s) (λ y. Leaf (slot_shown first y)) x) lifted_slot (flat_map leaves ts) below)
      ∙ sym (maps_after (slot_under s) (λ y. Leaf (slot_shown first y)) ts))

pub shown-under : (s : Subst) (next : ℕ) (d : Shown) → AllByRecursion (λ x. x < d.first → IsBelow next (s x)) (shown_variables d) → diff_shown (shown_under s next d) ≡ diff_under s (diff_shown d)
shown-under s next d below =
    let (left, right) = both_lists (λ x. x < d.first → IsBelow next (s x)) d below in
    λ i. record { left = lifted_terms s d.first next d.left left i; right = lifted_terms s d.first next d.right right i }

-- The first of the clause's variables in a list for which s has a given one.
abbrev found_in : Subst → ℕ → ℕ → List ℕ → ℕ
found_in s first y [] = 0
found_in s first y (x ∷ xs) = cond (nat_lt x first && same_term (s x) (Leaf y)) x (found_in s first y xs)

abbrev IsFound : Subst → ℕ → ℕ → List ℕ → ℕ → Type 0
IsFound s first y xs z = (list_any (nat_eq z) xs ≡ true) × (z < first) × (s z ≡ Leaf y)

finds : (s : Subst) (first y : ℕ) (xs : List ℕ) (x : ℕ) → list_any (nat_eq x) xs ≡ true → x < first → s x ≡ Leaf y → IsFound s first y xs (found_in s first y xs)
finds s first y [] x stands l e = cc
finds s first y (z ∷ xs) x stands l e = go (nat_lt z first) (same_term (s z) (Leaf y)) refl refl (finds s first y xs x) where
  clash : (a b : Bool) → nat_lt z first ≡ a → same_term (s z) (Leaf y) ≡ b → (a && b) ≡ false → nat_eq x z ≡ false
  clash a b p k off = go_on (nat_eq x z) refl where
    go_on : (c : Bool) → nat_eq x z ≡ c → c ≡ false
    go_on false m = refl
    go_on true m =
        let same : x ≡ z = eqb-true x z m in
        let small : nat_lt z first ≡ true = ap (λ v. nat_lt v first) (sym same) ∙ lt-ltb x first l in
        let alike : same_term (s z) (Leaf y) ≡ true = (same_term-decides (s z) (Leaf y)).1 (ap s (sym same) ∙ e) in
        sym (λ i. (sym p ∙ small) i && (sym k ∙ alike) i) ∙ off

  later : nat_eq x z ≡ false → (list_any (nat_eq x) xs ≡ true → x < first → s x ≡ Leaf y → IsFound s first y xs (found_in s first y xs)) → IsFound s first y (z ∷ xs) (found_in s first y xs)
  later apart below =
      let f = below (ap (λ b. b || list_any (nat_eq x) xs) (sym apart) ∙ stands) l e in
      (or_right (nat_eq (found_in s first y xs) z) (list_any (nat_eq (found_in s first y xs)) xs) f.0, f.1, f.2)

  go : (a b : Bool) → nat_lt z first ≡ a → same_term (s z) (Leaf y) ≡ b → (list_any (nat_eq x) xs ≡ true → x < first → s x ≡ Leaf y → IsFound s first y xs (found_in s first y xs)) → IsFound s first y (z ∷ xs) (cond (a && b) z (found_in s first y xs))
  go true true p k below = (or_left (nat_eq z z) (list_any (nat_eq z) xs) (eqb_self z), ltb-true z first p, (same_term-decides (s z) (Leaf y)).0 k)
  go true false p k below = later (clash true false p k refl) below
  go false true p k below = later (clash false true p k refl) below
  go false false p k below = later (clash false false p k refl) below

one_leaf : {x y : ℕ} → ◌≡◌ {A = Term} (Leaf x) (Leaf y) → x ≡ y
one_leaf e = cc

-- Terms for all variables as a substitution, and back.
abbrev values_of : ℕ → (Slot → Term) → Subst
values_of first e x = e (slot_shown first x)

abbrev slot_values : ℕ → Subst → Slot → Term
slot_values first s (Own x) = s x
slot_values first s (Bound i) = s (i + first)

shown_value : (first : ℕ) (s : Subst) (x : ℕ) → slot_values first s (slot_shown first x) ≡ s x
shown_value first s x = go (nat_lt x first) refl where
  go : (b : Bool) → nat_lt x first ≡ b → slot_values first s (cond b (Own x) (Bound (x - first))) ≡ s x
  go true e = refl
  go false e = let over = ltb-false x first e in let back : (x - first) + first ≡ x = omega arith in ap s back

module _ (d : Shown) where
  equal_shown : (e : Slot → Term) → AreEqual e (diff_shown d) → UnifiesAll (values_of d.first e) d.left d.right
  equal_shown e same = sym (maps_after e (λ x. Leaf (slot_shown d.first x)) d.left) ∙ (same ∙ maps_after e (λ x. Leaf (slot_shown d.first x)) d.right)

  shown_equal : (e : Slot → Term) (s : Subst) → AllByRecursion (λ x. values_of d.first e x ≡ s x) (shown_variables d) → UnifiesAll s d.left d.right → AreEqual e (diff_shown d)
  shown_equal e s agree same =
      let (left, right) = both_lists (λ x. values_of d.first e x ≡ s x) d agree in
      maps_after e (λ x. Leaf (slot_shown d.first x)) d.left
      ∙ (maps-alike (values_of d.first e) s d.left left
      ∙ (same ∙ (sym (maps-alike (values_of d.first e) s d.right right) ∙ sym (maps_after e (λ x. Leaf (slot_shown d.first x)) d.right))))

  -- So the sides can be equal exactly where the lists unify,
  pub shown-can : CanBeEqual (diff_shown d) ↔ ((s : Subst) × UnifiesAll s d.left d.right)
  shown-can = (
    λ h. (values_of d.first h.0, equal_shown h.0 h.1),
    λ h. (slot_values d.first h.0, shown_equal (slot_values d.first h.0) h.0 (all_each (λ x. values_of d.first (slot_values d.first h.0) x ≡ h.0 x) (shown_value d.first h.0) (shown_variables d)) h.1),
  )

  -- and the constraint is never met exactly where a most general unifier tells the clause's variables apart.
  module _ (s : Subst) (most : IsMostGeneral (λ r. UnifiesAll r d.left d.right) s) where
    leaf_of : (q : Subst) (t : Term) (x : ℕ) → bind q t ≡ Leaf x → (y : ℕ) × (t ≡ Leaf y)
    leaf_of q (Leaf y) x e = (y, refl)
    leaf_of q (Node f args) x e = cc

    pub never_apart : IsNeverMet (diff_shown d) → TellsApart s d
    never_apart h =
        let r = values_of d.first (slot_value Leaf h.0) in
        let (q, factors) = most.most r (equal_shown (slot_value Leaf h.0) h.1) in
        let returns : (x : ℕ) → x < d.first → bind q (s x) ≡ Leaf x = λ x l. factors x ∙ ap (slot_value Leaf h.0) (slot_own d.first x l) in
        record {
          variables = λ x is. leaf_of q (s x) x (returns x is.0);
          apart = λ x y is it e. one_leaf (sym (returns x is.0) ∙ (ap (bind q) e ∙ returns y it.0));
        }

    pub apart_never : TellsApart s d → IsNeverMet (diff_shown d)
    apart_never a = (λ i. u (i + d.first), shown_equal (slot_value Leaf (λ i. u (i + d.first))) u agree unified) where
      back : ℕ → ℕ
      back y = found_in s d.first y (shown_variables d)

      q : Subst
      q y = Leaf (back y)

      u : Subst
      u = after q s

      unified : UnifiesAll u d.left d.right
      unified = sym (maps_after q s d.left) ∙ (ap (map (bind q)) most.accepted ∙ maps_after q s d.right)

      returns : (x : ℕ) → IsOwnIn d x → u x ≡ Leaf x
      returns x is =
          let (y, e) = a.variables x is in
          let f = finds s d.first y (shown_variables d) x is.1 is.0 e in
          ap (bind q) e ∙ ap Leaf (a.apart (back y) x (f.1, f.0) is (f.2 ∙ sym e))

      at_slot : (x : ℕ) → list_any (nat_eq x) (shown_variables d) ≡ true → slot_value Leaf (λ i. u (i + d.first)) (slot_shown d.first x) ≡ u x
      at_slot x stands = go (nat_lt x d.first) refl where
        go : (b : Bool) → nat_lt x d.first ≡ b → slot_value Leaf (λ i. u (i + d.first)) (cond b (Own x) (Bound (x - d.first))) ≡ u x
        go true e = sym (returns x (ltb-true x d.first e, stands))
        go false e = let over = ltb-false x d.first e in let same : (x - d.first) + d.first ≡ x = omega arith in ap u same

      agree : AllByRecursion (λ x. values_of d.first (slot_value Leaf (λ i. u (i + d.first))) x ≡ u x) (shown_variables d)
      agree = all_weaker (λ x. list_any (nat_eq x) (shown_variables d) ≡ true) (λ x. values_of d.first (slot_value Leaf (λ i. u (i + d.first))) x ≡ u x) at_slot (shown_variables d) (stand_all (shown_variables d))
