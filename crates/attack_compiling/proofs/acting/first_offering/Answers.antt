use Rattle.std.proofs.Common.{arith}
use Rattle.std.proofs.lemmas.Grind.{common_steps}
use Rattle.attack_compiling.proofs.acting.first_offering.Goals as goal

pub each-preserved : goal.each-preserved
each-preserved c = grind (arith, common_steps)

pub returns-then-offers : goal.returns-then-offers
returns-then-offers c = grind (arith, common_steps)
