use Rattle.std.proofs.Common.{arith}
use Rattle.std.proofs.lemmas.Grind.{common_steps}
use Rattle.fact_reader.proofs.facts.mev_or_mess.Goals as goal

pub returns-else-front_behind-eq118-clause-read : goal.returns-else-front_behind-eq118-clause-read
returns-else-front_behind-eq118-clause-read g c = grind (arith, common_steps)

pub returns-then-front_behind-eq118-clause-read : goal.returns-then-front_behind-eq118-clause-read
returns-then-front_behind-eq118-clause-read g c = grind (arith, common_steps)
