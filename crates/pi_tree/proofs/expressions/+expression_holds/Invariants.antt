use Rattle.std.proofs.Common.{◌≡◌, map, drop}
use Rattle.spec_trees.specs.Tree.{some_leaf, some_leaves, trees}
use Rattle.spec_calculus.specs.Absence.{is_free}
use Rattle.pi_tree.specs.Expressions.{expression_of}
use Rattle.pi_tree.proofs.expressions.+expression_holds.Given as goal

abbrev pub invariant-Exprs::hold_free-loop-expression : goal.invariant-Exprs::hold_free-loop-expression
invariant-Exprs::hold_free-loop-expression l =
    some_leaves (some_leaf (is_free l.number)) (trees (map expression_of (drop l.expression-index l.expression-items))) ≡ some_leaves (some_leaf (is_free l.number)) (trees (map expression_of l.expression-items))
