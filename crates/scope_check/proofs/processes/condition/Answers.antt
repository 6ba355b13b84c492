use Rattle.std.proofs.Common.{arith}
use Rattle.std.proofs.lemmas.Grind.{common_steps}
use Rattle.scope_check.proofs.processes.condition.Goals as goal

pub returns-in_ok-right-in-SuchThat : goal.returns-in_ok-right-in-SuchThat
returns-in_ok-right-in-SuchThat c = grind (arith, common_steps)
