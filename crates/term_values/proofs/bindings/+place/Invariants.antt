use Rattle.std.proofs.Common.{◌≡◌, map, drop}
use Rattle.spec_trees.specs.Tree.{trees}
use Rattle.spec_calculus.specs.Values.{bound_to}
use Rattle.spec_calculus.specs.Matching.{places_row}
use Rattle.pi_tree.specs.Terms.{term_of}
use Rattle.pi_tree.specs.Values.{value_of}
use Rattle.pi_tree.specs.Slots.{name_of}
use Rattle.term_values.proofs.bindings.+place.Given as goal

abbrev pub invariant-place_in-loop-index : goal.invariant-place_in-loop-index
invariant-place_in-loop-index l =
    bound_to (places_row (trees (map term_of (drop l.index l.term-items))) (trees (map value_of (drop l.index l.values)))) (name_of l.slot)
    ≡ bound_to (places_row (trees (map term_of l.term-items)) (trees (map value_of l.values))) (name_of l.slot)
