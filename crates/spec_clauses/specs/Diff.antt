-- Constraints of clauses: two lists of terms that are not to be equal, whatever stands for the variables that the constraint
-- binds (Blanchet, Abadi and Fournet 2008, section 5: the predicate `nounif`; Comon and Lescanne 1989: disunification).
use Rattle.std.specs.Prelude.{◌≡◌, ℕ, ◌+◌, Bool, false, ◌&&◌, nat_eq, List, [], ◌∷◌, ◌++◌, map, flat_map}
use Rattle.spec_trees.specs.Tree.{Tree, Leaf, bind, trees, sizes}
use Rattle.spec_trees.specs.Leaves.{leaves}
use Rattle.spec_trees.specs.Same.{same_trees}
use Rattle.spec_terms.specs.Term.{Sym, Term, Subst, same_symbol}
use Rattle.spec_clauses.specs.Distinct.{distinct, place_of}

-- A variable in a constraint: one of the clause, or one that the constraint binds. Bound variables are leaves of their own, so a
-- substitution never captures one.
pub data Slot : Type 0 where
  Own : (variable : ℕ) → Slot
  Bound : (variable : ℕ) → Slot

abbrev pub Side : Type 0
Side = Tree Slot Sym

-- the left sides and the right sides, in order
pub record Diff : Type 0 where
  pub left : List Side
  pub right : List Side

abbrev pub sides : Diff → List Side
sides d = d.left ++ d.right

-- a term of the clause as a side
abbrev pub own : Term → Side
own t = bind (λ x. Leaf (Own x)) t

-- each variable gives way to the side that f has for it
abbrev pub diff_bind : (Slot → Side) → Diff → Diff
diff_bind f d = record { left = map (bind f) d.left; right = map (bind f) d.right }

-- a constraint under a substitution: bound variables stay
abbrev pub slot_under : Subst → Slot → Side
slot_under s (Own x) = own (s x)
slot_under s (Bound i) = Leaf (Bound i)

abbrev pub diff_under : Subst → Diff → Diff
diff_under s d = diff_bind (slot_under s) d

-- the term that a variable has, from one substitution for the clause's and one for the bound ones
abbrev pub slot_value : Subst → Subst → Slot → Term
slot_value s b (Own x) = s x
slot_value s b (Bound i) = b i

-- the sides are equal, one by one, with these terms for all variables
abbrev pub AreEqual : (Slot → Term) → Diff → Type 0
AreEqual e d = map (bind e) d.left ≡ map (bind e) d.right

-- The substitution meets the constraint: no terms for the bound variables make the sides equal.
abbrev pub IsMetBy : Subst → Diff → Type 0
IsMetBy s d = (b : Subst) → AreEqual (slot_value s b) d → ⊥

-- some terms for all variables make the sides equal: where none do, each substitution meets the constraint
abbrev pub CanBeEqual : Diff → Type 0
CanBeEqual d = (e : Slot → Term) × AreEqual e d

-- terms for the bound variables alone do: no substitution meets the constraint
abbrev pub IsNeverMet : Diff → Type 0
IsNeverMet d = (b : Subst) × AreEqual (slot_value Leaf b) d

-- the variables of either kind, each as often as it occurs, left sides first
abbrev pub own_of : Slot → List ℕ
own_of (Own x) = x ∷ []
own_of (Bound i) = []

abbrev pub bound_of : Slot → List ℕ
bound_of (Own x) = []
bound_of (Bound i) = i ∷ []

abbrev pub side_slots : List Side → List Slot
side_slots ts = flat_map leaves ts

abbrev pub diff_variables : Diff → List ℕ
diff_variables d = flat_map own_of (side_slots (sides d))

abbrev pub bound_variables : Diff → List ℕ
bound_variables d = flat_map bound_of (side_slots (sides d))

-- bound variables renamed
abbrev pub rebound : (ℕ → ℕ) → Slot → Side
rebound r (Own x) = Leaf (Own x)
rebound r (Bound i) = Leaf (Bound (r i))

-- and numbered by first occurrence, left sides first
abbrev pub bound_place : Diff → ℕ → ℕ
bound_place d i = place_of i (distinct nat_eq (bound_variables d))

abbrev pub numbered_diff : Diff → Diff
numbered_diff d = diff_bind (rebound (bound_place d)) d

-- the size: one, and one for each symbol and occurrence of a variable
abbrev pub diff_size : Diff → ℕ
diff_size d = 1 + sizes (trees (sides d))

-- whether two variables, and two constraints, are the same
abbrev pub same_slot : Slot → Slot → Bool
same_slot (Own x) (Own y) = nat_eq x y
same_slot (Bound i) (Bound j) = nat_eq i j
same_slot _ _ = false

abbrev pub same_sides : List Side → List Side → Bool
same_sides ts us = same_trees same_slot same_symbol (trees ts) (trees us)

abbrev pub same_diff : Diff → Diff → Bool
same_diff d e = same_sides d.left e.left && same_sides d.right e.right
