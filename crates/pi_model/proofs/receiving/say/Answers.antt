use Rattle.std.proofs.Common.{arith}
use Rattle.std.proofs.lemmas.Grind.{common_steps}
use Rattle.pi_model.proofs.ThreadSteps.{of_say}
use Rattle.pi_configurations.proofs.Points.{of_points}
use Rattle.pi_model.proofs.receiving.say.Goals as goal

pub received-requires : goal.received-requires
received-requires c = grind (arith, common_steps, of_say, of_points)

pub returns-in_ok-thread-in-Input-clause-possible : goal.returns-in_ok-thread-in-Input-clause-possible
returns-in_ok-thread-in-Input-clause-possible c = grind (arith, common_steps)
