use Rattle.std.proofs.Common.{arith}
use Rattle.std.proofs.lemmas.Grind.{common_steps}
use Rattle.attack_state.proofs.done.class_of.Goals as goal

pub each-preserved : goal.each-preserved
each-preserved c = grind (arith, common_steps)
