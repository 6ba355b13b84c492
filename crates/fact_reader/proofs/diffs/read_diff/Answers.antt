use Rattle.std.proofs.Common.{arith}
use Rattle.std.proofs.lemmas.Grind.{common_steps}
use Rattle.fact_reader.proofs.diffs.read_diff.Goals as goal

pub returns-else-len-clause-read : goal.returns-else-len-clause-read
returns-else-len-clause-read g c = grind (arith, common_steps)

pub returns-then-len-clause-read : goal.returns-then-len-clause-read
returns-then-len-clause-read g c = grind (arith, common_steps)

pub returns-then-len-clause-known : goal.returns-then-len-clause-known
returns-then-len-clause-known g c = grind (arith, common_steps)
