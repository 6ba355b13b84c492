-- Equality of trees, decided from tests on leaves and symbols.
use Rattle.std.specs.Prelude.{Bool, true, false, ◌&&◌}
use Rattle.spec_trees.specs.Tree.{Tree, Trees, Leaf, Node, none, more}

-- whether two trees are the same, where p and q tell whether two leaves and two symbols are
abbrev mutual
  pub same_tree : {L S : Type 0} → (L → L → Bool) → (S → S → Bool) → Tree L S → Tree L S → Bool
  same_tree p q (Leaf x) (Leaf y) = p x y
  same_tree p q (Leaf x) (Node g ys) = false
  same_tree p q (Node f xs) (Leaf y) = false
  same_tree p q (Node f xs) (Node g ys) = q f g && same_trees p q xs ys

  pub same_trees : {L S : Type 0} → (L → L → Bool) → (S → S → Bool) → Trees L S → Trees L S → Bool
  same_trees p q none none = true
  same_trees p q none (more y ys) = false
  same_trees p q (more x xs) none = false
  same_trees p q (more x xs) (more y ys) = same_tree p q x y && same_trees p q xs ys
