use Rattle.std.proofs.Common.{◌≡◌, ◌+◌, map, drop}
use Rattle.spec_trees.specs.Tree.{sizes, trees, binds}
use Rattle.spec_calculus.specs.Values.{value_of_name}
use Rattle.pi_tree.specs.Terms.{term_of}
use Rattle.term_values.specs.Room.{room_after}
use Rattle.term_values.proofs.sizes.+term_room.Given as goal

abbrev pub invariant-room_beside_node-loop-term : goal.invariant-room_beside_node-loop-term
invariant-room_beside_node-loop-term l =
    room_after l.rest (sizes (binds (value_of_name l.environment) (trees (map term_of (drop l.term-index l.term-items))))) ≡ room_after l.room (1 + sizes (binds (value_of_name l.environment) (trees (map term_of l.term-items))))
