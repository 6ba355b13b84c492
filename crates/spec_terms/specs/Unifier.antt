-- Unifiers, most general unifiers and matches (Robinson 1965).
use Rattle.std.specs.Prelude.{◌≡◌, ℕ, ◌+◌, IsTrue, Option, None, List, map, slice_get}
use Rattle.std.specs.Option.{unwrap_or}
use Rattle.spec_trees.specs.Tree.{Leaf, bind, after}
use Rattle.spec_terms.specs.Term.{Term, Subst, has_var}

-- s makes the two terms one
abbrev pub Unifies : Subst → Term → Term → Type 0
Unifies s a b = bind s a ≡ bind s b

-- s makes the two lists of terms one, item by item
abbrev pub UnifiesAll : Subst → List Term → List Term → Type 0
UnifiesAll s xs ys = map (bind s) xs ≡ map (bind s) ys

-- r is s and then some substitution
abbrev pub Factors : Subst → Subst → Type 0
Factors r s = (q : Subst) × ((x : ℕ) → after q s x ≡ r x)

-- s is accepted, and each substitution that is accepted factors through it
pub record IsMostGeneral (Accepted : Subst → Type 0) (s : Subst) : Type 0 where
  pub accepted : Accepted s
  pub most : (r : Subst) → Accepted r → Factors r s

-- s is a most general unifier of the two terms
abbrev pub IsMgu : Term → Term → Subst → Type 0
IsMgu a b s = IsMostGeneral (λ r. Unifies r a b) s

-- q only renames the variables that stand in the terms of s: each gets a variable, and r leads it back
abbrev pub IsRenaming : Subst → Subst → Subst → Type 0
IsRenaming s q r = (x y : ℕ) → IsTrue (has_var y (s x)) → (z : ℕ) × (q y ≡ Leaf z) × (r z ≡ Leaf y)

-- s makes the general term the special one, whose variables stand for themselves
abbrev pub Matches : Subst → Term → Term → Type 0
Matches s general special = bind s general ≡ special

-- s makes the general terms the special ones, item by item
abbrev pub MatchesAll : Subst → List Term → List Term → Type 0
MatchesAll s generals specials = map (bind s) generals ≡ specials

-- the renaming that makes each variable the one that is n further on
abbrev pub moved : ℕ → Subst
moved n x = Leaf (x + n)

-- the number that a table has for a variable, and where it has none the variable's own
abbrev pub number_in : List (Option ℕ) → ℕ → ℕ
number_in numbers x = unwrap_or (unwrap_or (slice_get numbers x) None) x

-- the renaming by a table
abbrev pub renumbered : List (Option ℕ) → Subst
renumbered numbers x = Leaf (number_in numbers x)
