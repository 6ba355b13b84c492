use Rattle.std.proofs.Common.{arith}
use Rattle.std.proofs.lemmas.Grind.{common_steps}
use Rattle.attack_compiling.proofs.acting.fetch.Goals as goal

pub returns-clause-does : goal.returns-clause-does
returns-clause-does c = grind (arith, common_steps)

pub returns-in-None-clause-does : goal.returns-in-None-clause-does
returns-in-None-clause-does c = grind (arith, common_steps)

pub returns-in_default-2-clause-does : goal.returns-in_default-2-clause-does
returns-in_default-2-clause-does c = grind (arith, common_steps)
