-- Constraints written in terms, as a program has them: from a number on, variables are bound ones.
use Rattle.std.specs.Prelude.{◌≡◌, ℕ, ◌+◌, ◌-◌, ◌<◌, true, nat_lt, nat_eq, cond, List, ◌++◌, map, flat_map}
use Rattle.std.specs.List.{list_any}
use Rattle.spec_trees.specs.Tree.{Leaf, bind}
use Rattle.spec_terms.specs.Term.{Term, Subst}
use Rattle.spec_clauses.specs.Diff.{Slot, Own, Bound, Diff}
use Rattle.spec_clauses.specs.Variables.{leaves}

-- The left terms and the right ones. A variable below `first` is the clause's, and `first + i` stands for the bound variable i.
pub record Shown : Type 0 where
  pub first : ℕ
  pub left : List Term
  pub right : List Term

abbrev pub slot_shown : ℕ → ℕ → Slot
slot_shown first x = cond (nat_lt x first) (Own x) (Bound (x - first))

-- the constraint that they are
abbrev pub diff_shown : Shown → Diff
diff_shown d = record { left = map (bind (λ x. Leaf (slot_shown d.first x))) d.left; right = map (bind (λ x. Leaf (slot_shown d.first x))) d.right }

-- the variables in them, of both kinds
abbrev pub shown_variables : Shown → List ℕ
shown_variables d = flat_map leaves (d.left ++ d.right)

-- s for the clause's variables, and bound variables from `next` on, so that they are told from those in the terms of s
abbrev pub lifted : Subst → ℕ → ℕ → Subst
lifted s first next x = cond (nat_lt x first) (s x) (Leaf ((x - first) + next))

abbrev pub shown_under : Subst → ℕ → Shown → Shown
shown_under s next d = record { first = next; left = map (bind (lifted s d.first next)) d.left; right = map (bind (lifted s d.first next)) d.right }

-- x is a variable of the clause that stands in the terms
abbrev pub IsOwnIn : Shown → ℕ → Type 0
IsOwnIn d x = (x < d.first) × (list_any (nat_eq x) (shown_variables d) ≡ true)

-- s has a variable for each of these, and no variable for two of them
pub record TellsApart (s : Subst) (d : Shown) : Type 0 where
  pub variables : (x : ℕ) → IsOwnIn d x → (y : ℕ) × (s x ≡ Leaf y)
  pub apart : (x y : ℕ) → IsOwnIn d x → IsOwnIn d y → s x ≡ s y → x ≡ y
