use Rattle.std.proofs.Common.{arith}
use Rattle.std.proofs.lemmas.Grind.{common_steps}
use Rattle.query_violations.proofs.violations.some_unpreceded.Goals as goal

pub returns-then-is_unpreceded : goal.returns-then-is_unpreceded
returns-then-is_unpreceded c = grind (arith, common_steps)

pub loop-index-preserved : goal.loop-index-preserved
loop-index-preserved c = grind (arith, common_steps)

pub returns : goal.returns
returns c = grind (arith, common_steps)
