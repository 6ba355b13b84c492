use Rattle.std.proofs.Common.{arith}
use Rattle.std.proofs.lemmas.Grind.{common_steps}
use Rattle.term_values.proofs.sizes.+term_room.Goals as goal

pub room_beside_term-returns-in-App : goal.room_beside_term-returns-in-App
room_beside_term-returns-in-App t c = rw c.in-App.is c.room_beside_node.ensures

pub room_beside_node-loop-term-preserved : goal.room_beside_node-loop-term-preserved
room_beside_node-loop-term-preserved t c = grind (arith, common_steps)

pub room_beside_node-returns-in-None-room_beside_term : goal.room_beside_node-returns-in-None-room_beside_term
room_beside_node-returns-in-None-room_beside_term t c = grind (arith, common_steps)

pub room_beside_node-returns : goal.room_beside_node-returns
room_beside_node-returns t c = grind (arith, common_steps)
