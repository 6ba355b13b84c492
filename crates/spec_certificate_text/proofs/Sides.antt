-- Words of variables, and sides in terms and back.
use Rattle.std.proofs.Common.{◌≡◌, ℕ, ◌+◌, ◌-◌, ◌<◌, ◌≤◌, Bool, true, false, cond, List, [], ◌∷◌, ◌++◌, map, refl, ap, subst, ◌∙◌, arith, lt-ltb, le-ltb}
use Rattle.std.specs.Prelude.{nat_lt, flat_map}
use Rattle.std.proofs.lemmas.List.{map-append}
use Rattle.std.specs.Fmt.{decimal}
use Rattle.std.specs.List.{AllByRecursion}
use borrow.Author.Tests.{ltb-true, ltb-false}
use Rattle.spec_trees.specs.Tree.{Trees, Leaf, Node, none, more, bind, binds, after}
use Rattle.spec_trees.specs.Leaves.{leaves, row_leaves}
use Rattle.spec_trees.proofs.Substitution.{bind-Leaf}
use Rattle.spec_terms.specs.Term.{Sym, Term}
use Rattle.spec_clauses.specs.Diff.{Slot, Own, Bound, Side, Diff, sides, side_slots}
use Rattle.spec_clauses.proofs.Diffs.{maps_after, maps-alike, maps_leaf, both_sides}
use Rattle.spec_clauses.proofs.Lists.{all_append, all_weaker}
use Rattle.spec_clauses.specs.Shown.{slot_shown}
use Rattle.spec_certificate_text.specs.Sides.{first_bound, variable_word, slot_number, side_term, SidesOf, spelled_diff, meant_diff}
use Rattle.spec_certificate_text.specs.OfProtocol.{IsOwnShort}

-- the word of a variable within the limit of digits, and of a bound one
pub own_word : (x : ℕ) → x < first_bound → variable_word x ≡ 118 ∷ decimal x
own_word x l = rw (lt-ltb x first_bound l) refl

pub bound_word : (x : ℕ) → first_bound ≤ x → variable_word x ≡ 63 ∷ decimal (x - first_bound)
bound_word x l = rw (le-ltb x first_bound l) refl

-- a variable's number is that of the slot that it is, and a short slot is that of its number
pub slot_spelled : (x : ℕ) → slot_number first_bound (slot_shown first_bound x) ≡ x
slot_spelled x = go (nat_lt x first_bound) refl where
  go : (b : Bool) → nat_lt x first_bound ≡ b → slot_number first_bound (cond b (Own x) (Bound (x - first_bound))) ≡ x
  go true e = refl
  go false e = let over : first_bound ≤ x = ltb-false x first_bound e in omega (arith, over)

pub slot_meant : (s : Slot) → IsOwnShort s → slot_shown first_bound (slot_number first_bound s) ≡ s
slot_meant (Own x) short = rw (lt-ltb x first_bound short) refl
slot_meant (Bound i) short =
    let over : first_bound ≤ first_bound + i = omega arith in
    let back : (first_bound + i) - first_bound ≡ i = omega arith in
    rw (le-ltb (first_bound + i) first_bound over) (ap Bound back)

-- sides in terms are the sides that are meant, where the clause's variables in them are short
sides_meant : (ts : List Side) → AllByRecursion IsOwnShort (side_slots ts) → map (bind (λ x. Leaf (slot_shown first_bound x))) (map side_term ts) ≡ ts
sides_meant ts short =
    let there : Slot → Side = after (λ x. Leaf (slot_shown first_bound x)) (λ x. Leaf (slot_number first_bound x)) in
    maps_after (λ x. Leaf (slot_shown first_bound x)) (λ x. Leaf (slot_number first_bound x)) ts
    ∙ (maps-alike there Leaf ts (all_weaker IsOwnShort (λ k. there k ≡ Leaf k) (λ k own. ap Leaf (slot_meant k own)) (side_slots ts) short) ∙ maps_leaf ts)

pub diff_meant : (d : Diff) → AllByRecursion IsOwnShort (side_slots (sides d)) → meant_diff (spelled_diff d) ≡ d
diff_meant d short =
    let (left, right) = both_sides IsOwnShort d short in
    let lefts = sides_meant d.left left in
    let rights = sides_meant d.right right in
    λ i. record { left = lefts i; right = rights i }

-- And back: terms are the sides that they mean, whose own variables are short.

terms_leaf : (ts : List Term) → map (bind Leaf) ts ≡ ts
terms_leaf [] = refl
terms_leaf (t ∷ ts) = let first = bind-Leaf t in let others = terms_leaf ts in λ i. first i ∷ others i

abbrev variable : ℕ → Term
variable x = Leaf x

each_spelled : (xs : List ℕ) → AllByRecursion (λ (x : ℕ). variable (slot_number first_bound (slot_shown first_bound x)) ≡ variable x) xs
each_spelled [] = tt
each_spelled (x ∷ xs) = (ap variable (slot_spelled x), each_spelled xs)

pub sides_spelled : (ts : List Term) → map side_term (map (bind (λ x. Leaf (slot_shown first_bound x))) ts) ≡ ts
sides_spelled ts =
    let there : ℕ → Term = after (λ k. Leaf (slot_number first_bound k)) (λ x. Leaf (slot_shown first_bound x)) in
    maps_after (λ k. Leaf (slot_number first_bound k)) (λ x. Leaf (slot_shown first_bound x)) ts ∙ (maps-alike there Leaf ts (each_spelled (flat_map leaves ts)) ∙ terms_leaf ts)

pub diff_spelled : (s : SidesOf Term) → spelled_diff (meant_diff s) ≡ s
diff_spelled s =
    let lefts = sides_spelled s.left in
    let rights = sides_spelled s.right in
    λ i. record { left = lefts i; right = rights i }

pub diffs_spelled : (ds : List (SidesOf Term)) → map spelled_diff (map meant_diff ds) ≡ ds
diffs_spelled [] = refl
diffs_spelled (d ∷ ds) = let first = diff_spelled d in let others = diffs_spelled ds in λ i. first i ∷ others i

slot_short : (x : ℕ) → IsOwnShort (slot_shown first_bound x)
slot_short x = go (nat_lt x first_bound) refl where
  go : (b : Bool) → nat_lt x first_bound ≡ b → IsOwnShort (cond b (Own x) (Bound (x - first_bound)))
  go true e = ltb-true x first_bound e
  go false e = tt

mutual
  meant_short : (t : Term) → AllByRecursion IsOwnShort (leaves (bind (λ x. Leaf (slot_shown first_bound x)) t))
  meant_short (Leaf x) = (slot_short x, tt)
  meant_short (Node f ts) = meant_row_short ts

  meant_row_short : (ts : Trees ℕ Sym) → AllByRecursion IsOwnShort (row_leaves (binds (λ x. Leaf (slot_shown first_bound x)) ts))
  meant_row_short none = tt
  meant_row_short (more t ts) =
      all_append IsOwnShort (leaves (bind (λ x. Leaf (slot_shown first_bound x)) t)) (row_leaves (binds (λ x. Leaf (slot_shown first_bound x)) ts)) (meant_short t) (meant_row_short ts)

sides_short : (ts : List Term) → AllByRecursion IsOwnShort (side_slots (map (bind (λ x. Leaf (slot_shown first_bound x))) ts))
sides_short [] = tt
sides_short (t ∷ ts) =
    all_append IsOwnShort (leaves (bind (λ x. Leaf (slot_shown first_bound x)) t)) (side_slots (map (bind (λ x. Leaf (slot_shown first_bound x))) ts)) (meant_short t) (sides_short ts)

pub meant_own : (s : SidesOf Term) → AllByRecursion IsOwnShort (side_slots (sides (meant_diff s)))
meant_own s = subst (λ ts. AllByRecursion IsOwnShort (side_slots ts)) (map-append (bind (λ x. Leaf (slot_shown first_bound x))) s.left s.right) (sides_short (s.left ++ s.right))
