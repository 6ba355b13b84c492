use Rattle.std.proofs.Common.{arith}
use Rattle.std.proofs.lemmas.Grind.{common_steps}
use Rattle.query_violations.proofs.alternatives.some_precede.Goals as goal

pub returns-then-precedes : goal.returns-then-precedes
returns-then-precedes c = grind (arith, common_steps)

pub loop-alternative-preserved : goal.loop-alternative-preserved
loop-alternative-preserved c = grind (arith, common_steps)

pub returns : goal.returns
returns c = grind (arith, common_steps)
