use Rattle.std.proofs.Common.{arith}
use Rattle.std.proofs.lemmas.Grind.{common_steps}
use Rattle.term_values.proofs.sizes.+room.Goals as goal

pub room_beside_all-loop-value-preserved : goal.room_beside_all-loop-value-preserved
room_beside_all-loop-value-preserved t c = grind (arith, common_steps)
