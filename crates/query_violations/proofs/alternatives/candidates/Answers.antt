use Rattle.std.proofs.Common.{arith}
use Rattle.std.proofs.lemmas.Grind.{common_steps}
use Rattle.query_violations.proofs.alternatives.candidates.Goals as goal

pub overflow_add-count : goal.overflow_add-count
overflow_add-count c = grind (arith, common_steps)

pub loop-happened-preserved : goal.loop-happened-preserved
loop-happened-preserved c = grind (arith, common_steps)

pub returns : goal.returns
returns c = grind (arith, common_steps)
