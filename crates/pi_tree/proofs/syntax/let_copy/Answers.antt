-- Copies of the parts make a copy.
use Rattle.std.proofs.Common.{arith}
use Rattle.std.proofs.lemmas.Grind.{common_steps}
use Rattle.pi_tree.proofs.syntax.let_copy.Goals as goal

pub returns : goal.returns
returns c = grind (arith, common_steps)
