use Rattle.std.proofs.Common.{arith}
use Rattle.std.proofs.lemmas.Grind.{common_steps}
use Rattle.log_text.proofs.tree.Derivation.has_told.Goals as goal

pub returns-then-line-number : goal.returns-then-line-number
returns-then-line-number c = grind (arith, common_steps)

pub each-preserved : goal.each-preserved
each-preserved c = grind (arith, common_steps)

pub returns : goal.returns
returns c = grind (arith, common_steps)
