use Rattle.std.proofs.Common.{arith}
use Rattle.std.proofs.lemmas.Grind.{common_steps}
use Rattle.pi_tree.proofs.syntax.condition_copy.Goals as goal

pub returns-in_ok-right-in-Some : goal.returns-in_ok-right-in-Some
returns-in_ok-right-in-Some c = grind (arith, common_steps)
