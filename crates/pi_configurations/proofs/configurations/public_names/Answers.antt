use Rattle.std.proofs.Common.{arith}
use Rattle.std.proofs.lemmas.Grind.{common_steps}
use Rattle.pi_configurations.proofs.configurations.public_names.Goals as goal

pub overflow_add-index : goal.overflow_add-index
overflow_add-index c = grind (arith, common_steps)

pub loop-index-preserved : goal.loop-index-preserved
loop-index-preserved c = grind (arith, common_steps)

pub overflow_cast-index : goal.overflow_cast-index
overflow_cast-index c = grind (arith, common_steps)

pub returns : goal.returns
returns c = grind (arith, common_steps)
