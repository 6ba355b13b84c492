use Rattle.std.proofs.Common.{arith}
use Rattle.std.proofs.lemmas.Grind.{common_steps}
use Rattle.pi_model.proofs.attacker.part.Goals as goal

pub returns-clause-possible : goal.returns-clause-possible
returns-clause-possible c = grind (arith, common_steps)
