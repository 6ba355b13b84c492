use Rattle.clause_form.specs.Plain.{term_of}
use Rattle.node_table.proofs.Rooms.{HasRoom}
use Rattle.node_table.proofs.sizes.room_behind_trees.Given as goal

abbrev pub invariant-each : goal.invariant-each
invariant-each l = HasRoom term_of 0 l.room l.left l.trees l.tree-index
