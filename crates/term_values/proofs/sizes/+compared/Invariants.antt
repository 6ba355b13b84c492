use Rattle.std.proofs.Common.{◌≡◌, map, drop}
use Rattle.std.specs.List.{list_any}
use Rattle.spec_trees.specs.Tree.{trees}
use Rattle.spec_calculus.specs.Values.{values_of}
use Rattle.spec_calculus.specs.Limits.{is_large, compared_row}
use Rattle.pi_tree.specs.Patterns.{pattern_of}
use Rattle.term_values.proofs.sizes.+compared.Given as goal

abbrev pub invariant-some_large_compared_in-loop-pattern : goal.invariant-some_large_compared_in-loop-pattern
invariant-some_large_compared_in-loop-pattern l =
    list_any is_large (values_of l.environment (compared_row (trees (map pattern_of (drop l.pattern-index l.pattern-items)))))
    ≡ list_any is_large (values_of l.environment (compared_row (trees (map pattern_of l.pattern-items))))
