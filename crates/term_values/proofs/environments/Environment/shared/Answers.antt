use Rattle.std.proofs.Common.{arith}
use Rattle.std.proofs.lemmas.Grind.{common_steps}
use Rattle.term_values.proofs.environments.Environment.shared.Goals as goal

pub loop-binding-preserved : goal.loop-binding-preserved
loop-binding-preserved c = grind (arith, common_steps)

pub returns-then-is : goal.returns-then-is
returns-then-is c = grind (arith, common_steps)

pub returns : goal.returns
returns c = grind (arith, common_steps)
