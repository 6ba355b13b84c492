use Rattle.std.proofs.Common.{arith}
use Rattle.std.proofs.lemmas.Grind.{common_steps}
use Rattle.clause_diffs.proofs.diffs.Diffs.copy.Goals as goal

pub loop-diff-preserved : goal.loop-diff-preserved
loop-diff-preserved c = grind (arith, common_steps)

pub returns : goal.returns
returns c = grind (arith, common_steps)
