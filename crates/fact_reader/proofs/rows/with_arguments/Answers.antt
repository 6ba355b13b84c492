use Rattle.std.proofs.Common.{arith}
use Rattle.std.proofs.lemmas.Grind.{common_steps}
use Rattle.fact_reader.proofs.rows.with_arguments.Goals as goal

pub returns-else-len-called-clause-read : goal.returns-else-len-called-clause-read
returns-else-len-called-clause-read g c = grind (arith, common_steps)

pub returns-then-len-called-clause-read : goal.returns-then-len-called-clause-read
returns-then-len-called-clause-read g c = grind (arith, common_steps)
