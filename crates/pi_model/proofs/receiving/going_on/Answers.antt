use Rattle.std.proofs.Common.{arith}
use Rattle.std.proofs.lemmas.Grind.{common_steps}
use Rattle.pi_model.proofs.receiving.going_on.Goals as goal

pub returns-in_ok-extended-in-Some : goal.returns-in_ok-extended-in-Some
returns-in_ok-extended-in-Some c = grind (arith, common_steps)
