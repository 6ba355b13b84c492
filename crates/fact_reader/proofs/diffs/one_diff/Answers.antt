use Rattle.std.proofs.Common.{arith}
use Rattle.std.proofs.lemmas.Grind.{common_steps}
use Rattle.fact_reader.proofs.diffs.one_diff.Goals as goal

pub returns-clause-read : goal.returns-clause-read
returns-clause-read g c = grind (arith, common_steps)

pub returns-then-front-eq44-clause-read : goal.returns-then-front-eq44-clause-read
returns-then-front-eq44-clause-read g c = grind (arith, common_steps)
