use Rattle.std.proofs.Common.{arith}
use Rattle.std.proofs.lemmas.Grind.{common_steps}
use Rattle.scope_check.proofs.expressions.are_terms.Goals as goal

pub returns-in-App-3 : goal.returns-in-App-3
returns-in-App-3 c = grind (arith, common_steps)

pub returns-in-App : goal.returns-in-App
returns-in-App c = grind (arith, common_steps)

pub returns-in-App-2 : goal.returns-in-App-2
returns-in-App-2 c = grind (arith, common_steps)

pub loop-part-preserved : goal.loop-part-preserved
loop-part-preserved c = grind (arith, common_steps)

pub returns : goal.returns
returns c = grind (arith, common_steps)
