use Rattle.std.proofs.Common.{◌≡◌, ◌++◌, map, drop}
use Rattle.spec_trees.specs.Tree.{trees}
use Rattle.spec_calculus.specs.Matching.{places_row}
use Rattle.pi_tree.specs.Terms.{term_of}
use Rattle.pi_tree.specs.Values.{value_of}
use Rattle.destructor_rules.proofs.bindings.+places.Given as goal

abbrev pub invariant-bind_row-loop-index : goal.invariant-bind_row-loop-index
invariant-bind_row-loop-index l =
    l.bindings ++ places_row (trees (map term_of (drop l.index l.term-items))) (trees (map value_of (drop l.index l.values)))
    ≡ l.initial.bindings ++ places_row (trees (map term_of l.term-items)) (trees (map value_of l.values))
