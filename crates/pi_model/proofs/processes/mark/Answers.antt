use Rattle.std.proofs.Common.{arith}
use Rattle.std.proofs.lemmas.Grind.{common_steps}
use Rattle.pi_model.proofs.ThreadSteps.{of_mark}
use Rattle.pi_configurations.proofs.Points.{of_points}
use Rattle.pi_model.proofs.processes.mark.Goals as goal

pub overflow_add-result : goal.overflow_add-result
overflow_add-result c = grind (arith, common_steps, of_mark, of_points)

pub returns-in_ok-args-in-Event-clause-possible : goal.returns-in_ok-args-in-Event-clause-possible
returns-in_ok-args-in-Event-clause-possible c = grind (arith, common_steps)
