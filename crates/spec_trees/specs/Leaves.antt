-- The leaves of trees, in order.
use Rattle.std.specs.Prelude.{List, [], ◌∷◌, ◌++◌}
use Rattle.spec_trees.specs.Tree.{Tree, Trees, Leaf, Node, none, more}

-- the leaves of a tree and of a row of trees, from left to right, each as often as it stands there
abbrev mutual
  pub leaves : {L S : Type 0} → Tree L S → List L
  leaves (Leaf x) = x ∷ []
  leaves (Node f args) = row_leaves args

  pub row_leaves : {L S : Type 0} → Trees L S → List L
  row_leaves none = []
  row_leaves (more t ts) = leaves t ++ row_leaves ts
