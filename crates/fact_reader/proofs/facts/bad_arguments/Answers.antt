use Rattle.std.proofs.Common.{arith}
use Rattle.std.proofs.lemmas.Grind.{common_steps}
use Rattle.fact_reader.proofs.facts.bad_arguments.Goals as goal

pub returns-then-front-eq41-clause-read : goal.returns-then-front-eq41-clause-read
returns-then-front-eq41-clause-read g c = grind (arith, common_steps)
