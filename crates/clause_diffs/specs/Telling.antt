-- The variables that substitutions have for variables.
use Rattle.std.specs.Prelude.{ℕ, Option, Some, None}
use Rattle.spec_trees.specs.Tree.{Leaf, Node}
use Rattle.spec_terms.specs.Term.{Term}

-- the variable that a term is, if it is one
abbrev pub variable_of : Term → Option ℕ
variable_of (Leaf x) = Some x
variable_of (Node f args) = None
