-- The least number above all variables of a clause itself, and constraints whose bound variables have the numbers from there on.
use Rattle.std.proofs.Common.{◌≡◌, ℕ, ◌+◌, ◌-◌, ◌<◌, ◌≤◌, max, List, [], ◌∷◌, length, map, take, get_or, refl, ap, ◌∙◌, lt-ltb, le-ltb, arith}
use Rattle.std.specs.List.{AllByRecursion}
use Rattle.std.proofs.lemmas.List.{take_more}
use Rattle.spec_trees.specs.Tree.{Leaf, bind, after}
use Rattle.spec_terms.specs.Term.{Term}
use Rattle.spec_clauses.specs.Diff.{Slot, Own, Bound, Side, Diff, sides, side_slots, diff_variables}
use Rattle.spec_clauses.specs.Fact.{Clause, clause_terms}
use Rattle.spec_clauses.specs.Shown.{slot_shown, diff_shown}
use Rattle.spec_clauses.specs.Variables.{leaves, constrained_variables, all_terms, IsBelow, AreBelow}
use Rattle.spec_clauses.proofs.Lists.{all_append, all_first, all_second, all_weaker, all-from_flat_map}
use Rattle.spec_clauses.proofs.Diffs.{maps_after, maps-alike, maps_leaf, all_own, both_sides}
use Rattle.spec_certificate_text.specs.Sides.{slot_number, side_in_terms}
use Rattle.clause_form.specs.Bounds.{above}
use Rattle.clause_form.proofs.Bounding.{above-append, below_above, above_least}

-- one number more
pub above_next : (xs : List ℕ) (i d least found next : ℕ) → i < length xs → found ≡ max least (above (take i xs)) → next ≡ max found (get_or xs i d + 1) → next ≡ max least (above (take (i + 1) xs))
above_next xs i d least found next within was e =
    let more = ap above (take_more xs i d within) ∙ above-append (take i xs) (get_or xs i d ∷ []) in omega arith

-- the variables of a clause's constraints, as terms

as_terms : (n : ℕ) (xs : List ℕ) → AllByRecursion (λ x. x < n) xs → AreBelow n (map Leaf xs)
as_terms n [] a = tt
as_terms n (x ∷ xs) a = ((a.0, tt), as_terms n xs a.1)

of_terms : (n : ℕ) (xs : List ℕ) → AreBelow n (map Leaf xs) → AllByRecursion (λ x. x < n) xs
of_terms n [] a = tt
of_terms n (x ∷ xs) a = (a.0.0, of_terms n xs a.1)

module _ (c : Clause Term) where
  abbrev constrained : List Term
  constrained = map Leaf (constrained_variables c)

  pub all_below : (facts all : ℕ) → AreBelow facts (clause_terms c) → all ≡ max facts (above (constrained_variables c)) → AreBelow all (all_terms c)
  all_below facts all below is =
      let wider : facts ≤ all = omega (arith, is) in
      let over : above (constrained_variables c) ≤ all = omega (arith, is) in
      all_append (IsBelow all) (clause_terms c) constrained
      (all_weaker (IsBelow facts) (IsBelow all) (λ t small. all_weaker (λ x. x < facts) (λ x. x < all) (λ x least. omega (arith, wider, least)) (leaves t) small) (clause_terms c) below)
      (as_terms all (constrained_variables c) (below_above all (constrained_variables c) over))

  pub all_least : (facts all n : ℕ) → ((m : ℕ) → AreBelow m (clause_terms c) → facts ≤ m) → all ≡ max facts (above (constrained_variables c)) → AreBelow n (all_terms c) → all ≤ n
  all_least facts all n least is below =
      let first = least n (all_first (IsBelow n) (clause_terms c) constrained below) in
      let second = above_least n (constrained_variables c) (of_terms n (constrained_variables c) (all_second (IsBelow n) (clause_terms c) constrained below)) in
      omega (arith, is, first, second)

  -- so the clause's variables in each of its constraints are below
  pub own_below : (n : ℕ) → AreBelow n (all_terms c) → AllByRecursion (λ d. AllByRecursion (λ x. x < n) (diff_variables d)) c.diffs
  own_below n below = all-from_flat_map (λ x. x < n) diff_variables c.diffs (of_terms n (constrained_variables c) (all_second (IsBelow n) (clause_terms c) constrained below))

-- A constraint whose bound variables have the numbers from n on, which is above the clause's variables in it, is the constraint.
module _ (n : ℕ) where
  abbrev IsOwnBelow : Slot → Type 0
  IsOwnBelow (Own x) = x < n
  IsOwnBelow (Bound i) = Unit {0}

  slot_back : (s : Slot) → IsOwnBelow s → slot_shown n (slot_number n s) ≡ s
  slot_back (Own x) below = rw (lt-ltb x n below) refl
  slot_back (Bound i) below =
      let over : n ≤ n + i = omega arith in
      let back : (n + i) - n ≡ i = omega arith in
      rw (le-ltb (n + i) n over) (ap Bound back)

  sides_back : (ts : List Side) → AllByRecursion IsOwnBelow (side_slots ts) → map (bind (λ x. Leaf (slot_shown n x))) (map (side_in_terms n) ts) ≡ ts
  sides_back ts below =
      let there : Slot → Side = after (λ x. Leaf (slot_shown n x)) (λ x. Leaf (slot_number n x)) in
      maps_after (λ x. Leaf (slot_shown n x)) (λ x. Leaf (slot_number n x)) ts
      ∙ (maps-alike there Leaf ts (all_weaker IsOwnBelow (λ k. there k ≡ Leaf k) (λ k own. ap Leaf (slot_back k own)) (side_slots ts) below) ∙ maps_leaf ts)

  pub diff_back : (d : Diff) (left right : List Term) → AllByRecursion (λ x. x < n) (diff_variables d) → left ≡ map (side_in_terms n) d.left → right ≡ map (side_in_terms n) d.right → diff_shown record { first = n; left = left; right = right } ≡ d
  diff_back d left right below lefts rights =
      let slots = all_own (λ x. x < n) IsOwnBelow (λ x h. h) (λ i. tt) (side_slots (sides d)) below in
      let (own_left, own_right) = both_sides IsOwnBelow d slots in
      let first = ap (map (bind (λ x. Leaf (slot_shown n x)))) lefts ∙ sides_back d.left own_left in
      let second = ap (map (bind (λ x. Leaf (slot_shown n x)))) rights ∙ sides_back d.right own_right in
      λ i. record { left = first i; right = second i }
