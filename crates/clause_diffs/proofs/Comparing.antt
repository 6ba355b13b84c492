-- Comparing the sides of constraints, term by term.
use Rattle.std.proofs.Common.{◌≡◌, ℕ, ◌+◌, ◌<◌, ◌≤◌, Bool, true, false, ◌&&◌, List, length, map, drop, get_or, ap, sym, ◌∙◌}
use Rattle.spec_trees.specs.Tree.{Leaf, node}
use Rattle.spec_trees.specs.Same.{same_tree}
use Rattle.spec_terms.specs.Term.{Sym, Term, same_symbol}
use Rattle.spec_clauses.specs.Diff.{same_slot, same_sides}
use Rattle.spec_clauses.specs.Shown.{slot_shown}
use Rattle.term_tree.specs.Bank.{tree_at}
use Rattle.term_tree.specs.declared.bank.Id.{Id}
use Rattle.clause_diffs.specs.Diffs.{side_shown, sides_at}
use Rattle.clause_diffs.proofs.Alike.{as_shown, alike_fail, alike_on, alike_end, alike_lengths, other_symbols_apart, other_lengths_apart, same_symbols_alike}

-- the test of the rest at i: it fails where the terms at i differ, goes on where they are the same, and passes at the end
pub sides_fail : (all : List Term) (first other : ℕ) (xs ys : List Id) (i : ℕ) (d : Id) (whole : Bool) → whole ≡ same_sides (sides_at all first (drop i xs)) (sides_at all other (drop i ys)) → i < length xs → i < length ys
    → same_tree same_slot same_symbol (side_shown first (tree_at all (get_or xs i d))) (side_shown other (tree_at all (get_or ys i d))) ≡ false → false ≡ whole
sides_fail all first other = alike_fail all (as_shown first) (as_shown other)

pub sides_on : (all : List Term) (first other : ℕ) (xs ys : List Id) (i : ℕ) (d : Id) (whole : Bool) → whole ≡ same_sides (sides_at all first (drop i xs)) (sides_at all other (drop i ys)) → i < length xs → i < length ys
    → same_tree same_slot same_symbol (side_shown first (tree_at all (get_or xs i d))) (side_shown other (tree_at all (get_or ys i d))) ≡ true
    → whole ≡ same_sides (sides_at all first (drop (i + 1) xs)) (sides_at all other (drop (i + 1) ys))
sides_on all first other = alike_on all (as_shown first) (as_shown other)

pub sides_end : (all : List Term) (first other : ℕ) (xs ys : List Id) (i : ℕ) (whole : Bool) → whole ≡ same_sides (sides_at all first (drop i xs)) (sides_at all other (drop i ys)) → length xs ≤ i → length ys ≤ i → true ≡ whole
sides_end all first other = alike_end all (as_shown first) (as_shown other)

pub sides_lengths : (all : List Term) (first other : ℕ) (xs ys : List Id) → (length xs ≡ length ys → ⊥) → false ≡ same_sides (sides_at all first xs) (sides_at all other ys)
sides_lengths all first other = alike_lengths all (as_shown first) (as_shown other)

-- a test that passed, and another
pub both_told : (a b p q : Bool) → a ≡ p → a ≡ true → b ≡ q → b ≡ (p && q)
both_told a b p q e passed f = f ∙ sym (ap (λ x. x && q) (sym e ∙ passed))

-- an application against another: symbols and arguments decide, and a variable is no application
module _ (all : List Term) (first other : ℕ) (left right : Id) where
  pub other_symbols : (f g : Sym) (xs ys : List Id) → tree_at all left ≡ node f (map (tree_at all) xs) → tree_at all right ≡ node g (map (tree_at all) ys) → (f ≡ g → ⊥)
      → false ≡ same_tree same_slot same_symbol (side_shown first (tree_at all left)) (side_shown other (tree_at all right))
  other_symbols f g xs ys is_left is_right differ = other_symbols_apart all (as_shown first) (as_shown other) left right f g xs ys is_left is_right differ

  pub other_lengths : (f g : Sym) (xs ys : List Id) → tree_at all left ≡ node f (map (tree_at all) xs) → tree_at all right ≡ node g (map (tree_at all) ys) → (length xs ≡ length ys → ⊥)
      → false ≡ same_tree same_slot same_symbol (side_shown first (tree_at all left)) (side_shown other (tree_at all right))
  other_lengths f g xs ys is_left is_right differ = other_lengths_apart all (as_shown first) (as_shown other) left right f g xs ys is_left is_right differ

  pub same_symbols : (f g : Sym) (xs ys : List Id) (b : Bool) → tree_at all left ≡ node f (map (tree_at all) xs) → tree_at all right ≡ node g (map (tree_at all) ys) → f ≡ g → b ≡ same_sides (sides_at all first xs) (sides_at all other ys)
      → b ≡ same_tree same_slot same_symbol (side_shown first (tree_at all left)) (side_shown other (tree_at all right))
  same_symbols f g xs ys b is_left is_right same told = same_symbols_alike all (as_shown first) (as_shown other) left right f g xs ys is_left is_right b same told

  pub variables : (x y : ℕ) (b : Bool) → tree_at all left ≡ Leaf x → tree_at all right ≡ Leaf y → b ≡ same_slot (slot_shown first x) (slot_shown other y)
      → b ≡ same_tree same_slot same_symbol (side_shown first (tree_at all left)) (side_shown other (tree_at all right))
  variables x y b is_left is_right told = told ∙ (λ i. same_tree same_slot same_symbol (side_shown first (sym is_left i)) (side_shown other (sym is_right i)))

  pub variable_left : (x : ℕ) (g : Sym) (ys : List Id) → tree_at all left ≡ Leaf x → tree_at all right ≡ node g (map (tree_at all) ys) → false ≡ same_tree same_slot same_symbol (side_shown first (tree_at all left)) (side_shown other (tree_at all right))
  variable_left x g ys is_left is_right = λ i. same_tree same_slot same_symbol (side_shown first (sym is_left i)) (side_shown other (sym is_right i))

  pub variable_right : (f : Sym) (xs : List Id) (y : ℕ) → tree_at all left ≡ node f (map (tree_at all) xs) → tree_at all right ≡ Leaf y → false ≡ same_tree same_slot same_symbol (side_shown first (tree_at all left)) (side_shown other (tree_at all right))
  variable_right f xs y is_left is_right = λ i. same_tree same_slot same_symbol (side_shown first (sym is_left i)) (side_shown other (sym is_right i))
