-- Constraints of the general clause under the bindings of a match, side by side, and sides in another bank.
use Rattle.std.specs.Prelude.{◌≡◌, ℕ, ◌<◌, Bool, true, is_some, Option, Some, None, List, length, map}
use Rattle.std.specs.List.{list_all}
use Rattle.spec_trees.specs.Tree.{Leaf, bind}
use Rattle.spec_terms.specs.Term.{Term}
use Rattle.spec_terms.specs.Binding.{replaced_once}
use Rattle.spec_clauses.specs.Diff.{Side, Diff, own, slot_under, diff_variables}
use Rattle.spec_clauses.specs.Kept.{IsKeptIn}
use Rattle.spec_clauses.specs.Shown.{slot_shown}
use Rattle.term_tree.specs.Bank.{tree_at, AreKnown}
use Rattle.term_tree.specs.declared.bank.Id.{Id}
use Rattle.unify_match.specs.declared.bound.Bound.{Bound}
use Rattle.unify_match.specs.Trail.{id_of}
use Rattle.unify_match.specs.Seen.{seen}
use Rattle.clause_diffs.specs.Diffs.{DiffOf, side_shown, sides_at}

-- what stands for a variable of a constraint whose bound variables are those from `first` on: what it is bound to by the bindings, if it
-- is the clause's and is bound by them; else itself
abbrev pub slot_matched : List Term → List Bound → ℕ → ℕ → Side
slot_matched all pairs first x = slot_under (replaced_once (seen all pairs)) (slot_shown first x)

-- terms of the constraint, and the constraint, under the bindings
abbrev pub side_matched : List Term → List Bound → ℕ → Term → Side
side_matched all pairs first t = bind (slot_matched all pairs first) t

abbrev pub sides_matched : List Term → List Bound → ℕ → List Id → List Side
sides_matched all pairs first ids = map (side_matched all pairs first) (map (tree_at all) ids)

abbrev pub diff_matched : List Term → List Bound → ℕ → DiffOf Id → Diff
diff_matched all pairs first d = record { left = sides_matched all pairs first d.left; right = sides_matched all pairs first d.right }

-- the side that a variable is, if a term is found for it, and if none is
abbrev pub value_side : List Term → ℕ → ℕ → Option Id → Side
value_side all first x None = Leaf (slot_shown first x)
value_side all first x (Some id) = own (tree_at all id)

-- terms of the special clause, as sides
abbrev pub own_sides : List Term → List Id → List Side
own_sides all ids = map own (map (tree_at all) ids)

-- the id, each of the ids, names a term that is the side, where variables from `next` on are bound
pub record NamesSide (all : List Term) (next : ℕ) (id : Id) (side : Side) : Type 0 where
  pub known : id.index < length all
  pub is : side_shown next (tree_at all id) ≡ side

pub record NameSides (all : List Term) (next : ℕ) (ids : List Id) (sides : List Side) : Type 0 where
  pub known : AreKnown all ids
  pub are : sides_at all next ids ≡ sides

-- all of the clause's variables in the constraint are bound
abbrev pub are_all_bound : List Bound → Diff → Bool
are_all_bound pairs d = list_all (λ x. is_some (id_of pairs x)) (diff_variables d)

-- The constraint is kept under the bindings, if all of the clause's variables in it are bound; and it isn't, where all are.
abbrev pub MayBeKept : List Term → List Bound → List Diff → Diff → Type 0
MayBeKept all pairs kept d = are_all_bound pairs d ≡ true → IsKeptIn kept (replaced_once (seen all pairs)) d

pub record IsUnkept (all : List Term) (pairs : List Bound) (kept : List Diff) (d : Diff) : Type 0 where
  pub bound : are_all_bound pairs d ≡ true
  pub never : IsKeptIn kept (replaced_once (seen all pairs)) d → ⊥
