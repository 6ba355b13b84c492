use Rattle.std.proofs.Common.{arith}
use Rattle.std.proofs.lemmas.Grind.{common_steps}
use Rattle.pi_model.proofs.ThreadSteps.{of_take}
use Rattle.pi_configurations.proofs.Points.{of_points}
use Rattle.pi_model.proofs.choices.take.Goals as goal

pub overflow_add-result : goal.overflow_add-result
overflow_add-result c = grind (arith, common_steps, of_take, of_points)

pub returns-in_ok-environment-in-Let-clause-possible : goal.returns-in_ok-environment-in-Let-clause-possible
returns-in_ok-environment-in-Let-clause-possible c = grind (arith, common_steps)

pub returns-then-some_large_at-clause-refused : goal.returns-then-some_large_at-clause-refused
returns-then-some_large_at-clause-refused c = grind (arith, common_steps)
