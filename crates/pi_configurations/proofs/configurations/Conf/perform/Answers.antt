use Rattle.std.proofs.Common.{arith}
use Rattle.std.proofs.lemmas.Grind.{common_steps}
use Rattle.pi_configurations.proofs.configurations.Conf.perform.Goals as goal

pub returns-clause-performed : goal.returns-clause-performed
returns-clause-performed c = grind (arith, common_steps)
