-- The variables of a constraint as it is written: the clause's are those below `first`, and the bound ones those from there on, less
-- `first`.
use Rattle.std.proofs.Common.{◌≡◌, ℕ, ◌+◌, ◌-◌, ◌<◌, Bool, true, false, not, cond, nat_lt, List, [], ◌∷◌, ◌++◌, length, map, flat_map, filter, take, get_or, refl, ap, sym, ◌∙◌, append-nil}
use Rattle.std.proofs.lemmas.List.{map-append, take_more}
use Rattle.spec_trees.specs.Tree.{Tree, Trees, Leaf, Node, none, more, bind, binds}
use Rattle.spec_trees.specs.Leaves.{leaves, row_leaves}
use Rattle.spec_terms.specs.Term.{Sym, Term}
use Rattle.spec_clauses.specs.Diff.{Own, Bound, sides, own_of, bound_of, side_slots, diff_variables, bound_variables}
use Rattle.spec_clauses.specs.Shown.{Shown, slot_shown, diff_shown, shown_variables}
use Rattle.clause_diffs.specs.Diffs.{side_shown}
use Rattle.clause_diffs.proofs.Counting.{filter-append}

-- the leaves of a tree in which each gives way to one
module _ {L M : Type 0} (f : L → M) where
  mutual
    leaves-each : (t : Tree L Sym) → leaves (bind (λ x. Leaf (f x)) t) ≡ map f (leaves t)
    leaves-each (Leaf x) = refl
    leaves-each (Node g args) = row_leaves-each args

    row_leaves-each : (ts : Trees L Sym) → row_leaves (binds (λ x. Leaf (f x)) ts) ≡ map f (row_leaves ts)
    row_leaves-each none = refl
    row_leaves-each (more t ts) = (λ i. leaves-each t i ++ row_leaves-each ts i) ∙ sym (map-append f (leaves t) (row_leaves ts))

slots-shown : (first : ℕ) (ts : List Term) → side_slots (map (side_shown first) ts) ≡ map (slot_shown first) (flat_map leaves ts)
slots-shown first [] = refl
slots-shown first (t ∷ ts) = (λ i. leaves-each (slot_shown first) t i ++ slots-shown first ts i) ∙ sym (map-append (slot_shown first) (leaves t) (flat_map leaves ts))

sides-shown : (d : Shown) → side_slots (sides (diff_shown d)) ≡ map (slot_shown d.first) (shown_variables d)
sides-shown d = ap side_slots (sym (map-append (side_shown d.first) d.left d.right)) ∙ slots-shown d.first (d.left ++ d.right)

own_shown : (first : ℕ) (xs : List ℕ) → flat_map own_of (map (slot_shown first) xs) ≡ filter (λ x. nat_lt x first) xs
own_shown first [] = refl
own_shown first (x ∷ xs) = go (nat_lt x first) (own_shown first xs) where
  go : (b : Bool) → flat_map own_of (map (slot_shown first) xs) ≡ filter (λ y. nat_lt y first) xs → own_of (cond b (Own x) (Bound (x - first))) ++ flat_map own_of (map (slot_shown first) xs) ≡ cond b (x ∷ filter (λ y. nat_lt y first) xs) (filter (λ y. nat_lt y first) xs)
  go true e = ap (λ l. x ∷ l) e
  go false e = e

bound_shown : (first : ℕ) (xs : List ℕ) → flat_map bound_of (map (slot_shown first) xs) ≡ map (λ x. x - first) (filter (λ x. not (nat_lt x first)) xs)
bound_shown first [] = refl
bound_shown first (x ∷ xs) = go (nat_lt x first) (bound_shown first xs) where
  go : (b : Bool) → flat_map bound_of (map (slot_shown first) xs) ≡ map (λ y. y - first) (filter (λ y. not (nat_lt y first)) xs)
      → bound_of (cond b (Own x) (Bound (x - first))) ++ flat_map bound_of (map (slot_shown first) xs) ≡ map (λ y. y - first) (cond (not b) (x ∷ filter (λ y. not (nat_lt y first)) xs) (filter (λ y. not (nat_lt y first)) xs))
  go true e = e
  go false e = ap (λ l. (x - first) ∷ l) e

pub shown-own : (d : Shown) → diff_variables (diff_shown d) ≡ filter (λ x. nat_lt x d.first) (shown_variables d)
shown-own d = ap (flat_map own_of) (sides-shown d) ∙ own_shown d.first (shown_variables d)

pub shown-bound : (d : Shown) → bound_variables (diff_shown d) ≡ map (λ x. x - d.first) (filter (λ x. not (nat_lt x d.first)) (shown_variables d))
shown-bound d = ap (flat_map bound_of) (sides-shown d) ∙ bound_shown d.first (shown_variables d)

-- one item more, kept where it passes a test
pub kept_more : {X : Type 0} (p : X → Bool) (xs : List X) (i : ℕ) (d : X) (kept new : List X) → i < length xs → kept ≡ filter p (take i xs) → new ≡ cond (p (get_or xs i d)) (kept ++ get_or xs i d ∷ []) kept → new ≡ filter p (take (i + 1) xs)
kept_more p xs i d kept new within was e =
    e ∙ (one (p (get_or xs i d))
    ∙ (ap (λ l. l ++ filter p (get_or xs i d ∷ [])) was ∙ (sym (filter-append p (take i xs) (get_or xs i d ∷ [])) ∙ ap (filter p) (sym (take_more xs i d within))))) where
      one : (b : Bool) → cond b (kept ++ get_or xs i d ∷ []) kept ≡ kept ++ cond b (get_or xs i d ∷ []) []
      one true = refl
      one false = sym (append-nil kept)

-- and one number more, less another, where it isn't below that
pub from_more : (first : ℕ) (xs : List ℕ) (i d : ℕ) (kept new : List ℕ) → i < length xs → kept ≡ map (λ x. x - first) (filter (λ x. not (nat_lt x first)) (take i xs)) → new ≡ cond (nat_lt (get_or xs i d) first) kept (kept ++ (get_or xs i d - first) ∷ [])
    → new ≡ map (λ x. x - first) (filter (λ x. not (nat_lt x first)) (take (i + 1) xs))
from_more first xs i d kept new within was e =
    let x = get_or xs i d in
    let above : ℕ → Bool = λ y. not (nat_lt y first) in
    let less : ℕ → ℕ = λ y. y - first in
    e ∙ (one (nat_lt x first)
    ∙ (ap (λ l. l ++ map less (filter above (x ∷ []))) was
    ∙ (sym (map-append less (filter above (take i xs)) (filter above (x ∷ []))) ∙ ap (map less) (sym (filter-append above (take i xs) (x ∷ [])) ∙ ap (filter above) (sym (take_more xs i d within)))))) where
      one : (b : Bool) → cond b kept (kept ++ (get_or xs i d - first) ∷ []) ≡ kept ++ map (λ y. y - first) (cond (not b) (get_or xs i d ∷ []) [])
      one true = sym (append-nil kept)
      one false = refl
