use Rattle.std.proofs.Common.{arith}
use Rattle.std.proofs.lemmas.Grind.{common_steps}
use Rattle.fact_placing.proofs.matching.match_lists.Goals as goal

pub returns-then-generals-specials-clause-outcome : goal.returns-then-generals-specials-clause-outcome
returns-then-generals-specials-clause-outcome g c = grind (arith, common_steps)
