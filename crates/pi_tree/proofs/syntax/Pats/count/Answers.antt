-- A list is as long as it is seen.
use Rattle.std.proofs.Common.{arith}
use Rattle.std.proofs.lemmas.Grind.{common_steps}
use Rattle.pi_tree.proofs.syntax.Pats.count.Goals as goal

pub returns : goal.returns
returns c = grind (arith, common_steps)
