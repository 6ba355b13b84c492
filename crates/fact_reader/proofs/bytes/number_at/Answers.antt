use Rattle.std.proofs.Common.{arith}
use Rattle.std.proofs.lemmas.Grind.{common_steps}
use Rattle.fact_reader.proofs.bytes.number_at.Goals as goal

pub returns-in-None-clause-read : goal.returns-in-None-clause-read
returns-in-None-clause-read c = grind (arith, common_steps)

pub returns-in-Some-clause-read : goal.returns-in-Some-clause-read
returns-in-Some-clause-read c = grind (arith, common_steps)

pub returns-then-behind-bytes-clause-read : goal.returns-then-behind-bytes-clause-read
returns-then-behind-bytes-clause-read c = grind (arith, common_steps)
