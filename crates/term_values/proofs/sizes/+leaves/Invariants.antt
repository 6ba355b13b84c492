use Rattle.std.proofs.Common.{◌≡◌, map, drop}
use Rattle.std.specs.List.{list_any}
use Rattle.spec_trees.specs.Tree.{trees}
use Rattle.spec_calculus.specs.Values.{values_of}
use Rattle.spec_trees.specs.Leaves.{row_leaves}
use Rattle.spec_calculus.specs.Limits.{is_large}
use Rattle.pi_tree.specs.Expressions.{expression_of}
use Rattle.term_values.proofs.sizes.+leaves.Given as goal

abbrev pub invariant-some_large_leaf_in-loop-expression : goal.invariant-some_large_leaf_in-loop-expression
invariant-some_large_leaf_in-loop-expression l =
    list_any is_large (values_of l.environment (row_leaves (trees (map expression_of (drop l.expression-index l.expression-items)))))
    ≡ list_any is_large (values_of l.environment (row_leaves (trees (map expression_of l.expression-items))))
