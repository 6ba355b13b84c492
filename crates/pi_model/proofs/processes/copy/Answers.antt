use Rattle.std.proofs.Common.{arith}
use Rattle.std.proofs.lemmas.Grind.{common_steps}
use Rattle.pi_model.proofs.ThreadSteps.{of_copy}
use Rattle.pi_configurations.proofs.Points.{of_points}
use Rattle.pi_model.proofs.processes.copy.Goals as goal

pub overflow_add-begun : goal.overflow_add-begun
overflow_add-begun c = grind (arith, common_steps, of_copy, of_points)

pub returns-in_ok-copy-in-Copies-clause-possible : goal.returns-in_ok-copy-in-Copies-clause-possible
returns-in_ok-copy-in-Copies-clause-possible c = grind (arith, common_steps)
