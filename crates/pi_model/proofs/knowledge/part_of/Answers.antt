use Rattle.std.proofs.Common.{arith}
use Rattle.std.proofs.lemmas.Grind.{common_steps}
use Rattle.pi_model.proofs.knowledge.part_of.Goals as goal

pub returns-then-declared : goal.returns-then-declared
returns-then-declared c = grind (arith, common_steps)

pub returns-else-declared : goal.returns-else-declared
returns-else-declared c = grind (arith, common_steps)
