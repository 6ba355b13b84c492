use Rattle.std.proofs.Common.{◌≡◌, map, drop}
use Rattle.spec_trees.specs.Tree.{sizes, trees}
use Rattle.pi_tree.specs.Values.{value_of}
use Rattle.term_values.specs.Room.{room_after}
use Rattle.term_values.proofs.sizes.+room.Given as goal

abbrev pub invariant-room_beside_all-loop-value : goal.invariant-room_beside_all-loop-value
invariant-room_beside_all-loop-value l =
    room_after l.rest (sizes (trees (map value_of (drop l.value-index l.values)))) ≡ room_after l.room (sizes (trees (map value_of l.values)))
