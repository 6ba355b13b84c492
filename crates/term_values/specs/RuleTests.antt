-- Whether each destructor that an expression applies has a rule.
use Rattle.std.specs.Prelude.{ℕ, Bool, true, false, ◌&&◌, List, [], ◌∷◌}
use Rattle.spec_trees.specs.Tree.{Trees, Leaf, Node, none, more}
use Rattle.spec_calculus.specs.Syntax.{Term, Head, Builds, Calls, Expression, Protocol}
use Rattle.spec_calculus.specs.Matching.{rules_of}

abbrev pub is_filled : {A : Type 0} → List A → Bool
is_filled [] = false
is_filled (x ∷ xs) = true

abbrev mutual
  pub has_rules : Protocol → Expression → Bool
  has_rules P (Leaf term) = true
  has_rules P (Node (Builds f) parts) = has_row_rules P parts
  has_rules P (Node (Calls d) parts) = is_filled (rules_of P d) && has_row_rules P parts

  pub has_row_rules : Protocol → Trees Term (Head ℕ) → Bool
  has_row_rules P none = true
  has_row_rules P (more part parts) = has_rules P part && has_row_rules P parts
