use Rattle.std.proofs.Common.{arith}
use Rattle.std.proofs.lemmas.Grind.{common_steps}
use Rattle.attack_compiling.proofs.acting.choose.Goals as goal

pub returns-in_ok-items-in-Taken-clause-does : goal.returns-in_ok-items-in-Taken-clause-does
returns-in_ok-items-in-Taken-clause-does c = grind (arith, common_steps)

pub returns-in-Else-clause-does : goal.returns-in-Else-clause-does
returns-in-Else-clause-does c = grind (arith, common_steps)
