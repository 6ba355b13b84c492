-- One alternative more.
use Rattle.std.proofs.Common.{arith}
use Rattle.std.proofs.lemmas.Grind.{common_steps}
use Rattle.scope_check.proofs.queries.alternatives.Goals as goal

pub loop-sketch-preserved : goal.loop-sketch-preserved
loop-sketch-preserved c = grind (arith, common_steps)

pub returns-in_err-alternative-clause-read : goal.returns-in_err-alternative-clause-read
returns-in_err-alternative-clause-read c = grind (arith, common_steps)

pub returns-clause-read : goal.returns-clause-read
returns-clause-read c = grind (arith, common_steps)
