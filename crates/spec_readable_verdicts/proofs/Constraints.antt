-- The constraints of a clause that is its own norm: their variables, of both kinds, have numbers below the clause's size. So those that are
-- over a protocol may stand in a text.
use Rattle.std.proofs.Common.{◌≡◌, ◌∙◌, ℕ, suc, ◌<◌, ◌≤◌, ◌||◌, Bool, true, false, cond, nat_eq, Some, List, [], ◌∷◌, length, map, refl, ap, sym, subst, arith, length-append}
use Rattle.std.specs.Prelude.{flat_map}
use Rattle.std.specs.List.{AllByRecursion, list_any}
use Rattle.spec_trees.specs.Tree.{Trees, Leaf, Node, none, more, trees, items_of, binds, size, sizes}
use Rattle.spec_trees.specs.Leaves.{leaves, row_leaves}
use Rattle.spec_trees.proofs.Measures.{depth-le-size, size-bind-le}
use Rattle.spec_trees.proofs.Rows.{sizes-append}
use Rattle.spec_calculus.specs.Bounds.{most_symbols}
use Rattle.spec_calculus.specs.Syntax.{Protocol}
use Rattle.spec_well_formed.specs.Terms.{row_length, EachSymbolInRow}
use Rattle.spec_terms.specs.Term.{Sym, Term}
use Rattle.spec_clauses.specs.Diff.{Slot, Own, Bound, Side, Diff, sides, diff_under, own_of, bound_of, side_slots, diff_variables, bound_variables, bound_place, numbered_diff, diff_size}
use Rattle.spec_clauses.specs.Distinct.{distinct, place_of}
use Rattle.spec_clauses.specs.Fact.{Clause, total}
use Rattle.spec_clauses.specs.Norm.{norm}
use Rattle.spec_clauses.specs.Renaming.{renaming}
use Rattle.spec_clauses.specs.Inclusion.{here, there, Has}
use Rattle.spec_clauses.proofs.Lists.{all_first, all_second, all_weaker}
use Rattle.spec_clauses.proofs.Distinct.{nat_eq-decides, stand_all, stands_distinct}
use Rattle.spec_clauses.proofs.Diffs.{both_sides}
use Rattle.spec_clauses.proofs.DiffNumbering.{bound-rebound, size-numbered}
use Rattle.spec_clauses.proofs.Inclusion.{Has-within, Has-map_source}
use Rattle.spec_clauses.proofs.NormKeeps.{norm-diffs}
use Rattle.spec_clauses.proofs.NormNumbers.{length-distinct}
use Rattle.spec_translation.proofs.Sizes.{leaves-length}
use Rattle.spec_certificate_text.specs.OfProtocol.{IsSymbolOf, IsOwnShort, most_side_variables}
use Rattle.spec_certificate_text.specs.OfProtocol as text
use Rattle.spec_certificate_text.specs.Readable.{SideMayStand, IsReadableDiff}
use Rattle.spec_certificate_text.specs.Sides.{first_bound, slot_number, side_term}
use Rattle.spec_readable_verdicts.proofs.Facts.{IsSideOver, IsDiffOver}

-- Bound variables that are numbered have numbers below the constraint's size.

-- a number that stands among others has a place before their end
place_within : (x : ℕ) (xs : List ℕ) → list_any (nat_eq x) xs ≡ true → place_of x xs < length xs
place_within x [] stands = absurd (let clash = stands in cc)
place_within x (y ∷ ys) stands = go (nat_eq x y) stands (place_within x ys) where
  go : (b : Bool) → (b || list_any (nat_eq x) ys) ≡ true → (list_any (nat_eq x) ys ≡ true → place_of x ys < length ys) → cond b 0 (suc (place_of x ys)) < suc (length ys)
  go true e later = omega arith
  go false e later = let here = later e in omega arith

bound_length : (ks : List Slot) → length (flat_map bound_of ks) ≤ length ks
bound_length [] = omega arith
bound_length (Own x ∷ ks) = omega (arith, bound_length ks)
bound_length (Bound i ∷ ks) = omega (arith, bound_length ks)

slots_length : (ts : List Side) → length (side_slots ts) ≤ sizes (trees ts)
slots_length [] = omega arith
slots_length (t ∷ ts) = omega (arith, leaves-length t, slots_length ts, length-append (leaves t) (side_slots ts))

all_places : (d : Diff) (xs : List ℕ) → AllByRecursion (λ x. list_any (nat_eq x) (bound_variables d) ≡ true) xs → AllByRecursion (λ i. i < diff_size d) (map (bound_place d) xs)
all_places d [] h = tt
all_places d (x ∷ xs) h =
    let order = distinct nat_eq (bound_variables d) in
    let within = place_within x order (stands_distinct nat_eq nat_eq-decides x (bound_variables d) ∙ h.0) in
    (omega (arith, within, length-distinct nat_eq (bound_variables d), bound_length (side_slots (sides d)), slots_length (sides d)), all_places d xs h.1)

numbered_below : (d : Diff) → AllByRecursion (λ i. i < diff_size d) (bound_variables (numbered_diff d))
numbered_below d = subst (AllByRecursion (λ i. i < diff_size d)) (sym (bound-rebound (bound_place d) d)) (all_places d (bound_variables d) (stand_all (bound_variables d)))

-- so have those of each constraint of a norm
pub bound_below : (c : Clause Term) → norm c ≡ Some c → (d : Diff) → Has c.diffs d → AllByRecursion (λ i. i < diff_size d) (bound_variables d)
bound_below c normal d has =
    let (r, within) = norm-diffs c c normal in
    let one = λ (e : Diff). numbered_diff (diff_under (renaming r) e) in
    let (e, listed, same) = Has-map_source one c.diffs d (Has-within c.diffs (map one c.diffs) d within has) in
    let f = diff_under (renaming r) e in
    let size_is : diff_size d ≡ diff_size f = ap diff_size same ∙ size-numbered f in
    all_weaker (λ i. i < diff_size f) (λ i. i < diff_size d) (λ i h. omega (arith, h, size_is)) (bound_variables d)
    (subst (λ x. AllByRecursion (λ i. i < diff_size f) (bound_variables x)) (sym same) (numbered_below f))

-- a variable of either kind with a number below n
abbrev IsSlotBelow : ℕ → Slot → Type 0
IsSlotBelow n (Own x) = x < n
IsSlotBelow n (Bound i) = i < n

slots_below : (n : ℕ) (ks : List Slot) → AllByRecursion (λ x. x < n) (flat_map own_of ks) → AllByRecursion (λ i. i < n) (flat_map bound_of ks) → AllByRecursion (IsSlotBelow n) ks
slots_below n [] first second = tt
slots_below n (Own x ∷ ks) first second = (first.0, slots_below n ks first.1 second)
slots_below n (Bound i ∷ ks) first second = (second.0, slots_below n ks first second.1)

-- the two counts of a row are one
row_items : (ts : Trees Slot Sym) → row_length ts ≡ length (items_of (binds (λ k. Leaf (slot_number first_bound k)) ts))
row_items none = refl
row_items (more t ts) = omega (arith, row_items ts)

-- Where the variables' numbers are small, a side over the protocol is one of it, and a constraint over it may stand in a text.
module _ (P : Protocol) (n : ℕ) (small : n ≤ most_symbols) where
  own_short : (k : Slot) → IsSlotBelow n k → IsOwnShort k
  own_short (Own x) h = omega (arith, small, h)
  own_short (Bound i) h = tt

  slot_of : (k : Slot) → IsSlotBelow n k → slot_number first_bound k < most_side_variables
  slot_of (Own x) h = omega (arith, small, h)
  slot_of (Bound i) h = omega (arith, small, h)

  mutual
    side_of : (t : Side) → IsSideOver P t → AllByRecursion (IsSlotBelow n) (leaves t) → text.IsTermBelow most_side_variables P (side_term t)
    side_of (Leaf k) h b = slot_of k b.0
    side_of (Node f args) h b = (subst (IsSymbolOf P f) (row_items args) h.0, row_of args h.1 b)

    row_of : (ts : Trees Slot Sym) → EachSymbolInRow (IsSymbolOf P) ts → AllByRecursion (IsSlotBelow n) (row_leaves ts) → text.AreTermsBelow most_side_variables P (binds (λ k. Leaf (slot_number first_bound k)) ts)
    row_of none h b = tt
    row_of (more t ts) h b = (
      side_of t h.0 (all_first (IsSlotBelow n) (leaves t) (row_leaves ts) b),
      row_of ts h.1 (all_second (IsSlotBelow n) (leaves t) (row_leaves ts) b),
    )

  side_may_stand : (t : Side) → IsSideOver P t → AllByRecursion (IsSlotBelow n) (leaves t) → size t ≤ most_symbols → SideMayStand P (side_term t)
  side_may_stand t h b s = (side_of t h b, omega (arith, depth-le-size (side_term t), size-bind-le (λ k. Leaf (slot_number first_bound k)) 1 (omega arith) (λ k. omega arith) t, s))

  sides_may_stand : (ts : List Side) → AllByRecursion (IsSideOver P) ts → AllByRecursion (IsSlotBelow n) (side_slots ts) → sizes (trees ts) ≤ most_symbols → AllByRecursion (SideMayStand P) (map side_term ts)
  sides_may_stand [] h b s = tt
  sides_may_stand (t ∷ ts) h b s = (
    side_may_stand t h.0 (all_first (IsSlotBelow n) (leaves t) (side_slots ts) b) (omega (arith, s)),
    sides_may_stand ts h.1 (all_second (IsSlotBelow n) (leaves t) (side_slots ts) b) (omega (arith, s)),
  )

  diff_readable : (d : Diff) → IsDiffOver P d → AllByRecursion (IsSlotBelow n) (side_slots (sides d)) → diff_size d ≤ most_symbols → IsReadableDiff P d
  diff_readable d h b s =
      let whole = sizes-append d.left d.right in
      let (left_below, right_below) = both_sides (IsSlotBelow n) d b in record {
        left = sides_may_stand d.left h.left left_below (omega (arith, whole, s));
        right = sides_may_stand d.right h.right right_below (omega (arith, whole, s));
        own = all_weaker (IsSlotBelow n) IsOwnShort own_short (side_slots (sides d)) b;
        paired = h.paired;
        some = h.some;
      }

  -- constraints whose own variables are below n, whose bound ones are below their sizes, and that have no more symbols than n together
  pub diffs_readable : (ds : List Diff) → AllByRecursion (IsDiffOver P) ds → AllByRecursion (λ x. x < n) (flat_map diff_variables ds) → ((d : Diff) → Has ds d → AllByRecursion (λ i. i < diff_size d) (bound_variables d)) → total diff_size ds ≤ n → AllByRecursion (IsReadableDiff P) ds
  diffs_readable [] h first second s = tt
  diffs_readable (d ∷ ds) h first second s =
      let own_below = all_first (λ x. x < n) (diff_variables d) (flat_map diff_variables ds) first in
      let others_below = all_weaker (λ i. i < diff_size d) (λ i. i < n) (λ i k. omega (arith, k, s)) (bound_variables d) (second d (ds, here)) in (
        diff_readable d h.0 (slots_below n (side_slots (sides d)) own_below others_below) (omega (arith, small, s)),
        diffs_readable ds h.1 (all_second (λ x. x < n) (diff_variables d) (flat_map diff_variables ds) first) (λ e k. second e (d ∷ k.0, there k.1)) (omega (arith, s)),
      )
