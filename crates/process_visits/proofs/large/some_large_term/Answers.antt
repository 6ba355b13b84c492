use Rattle.std.proofs.Common.{arith}
use Rattle.std.proofs.lemmas.Grind.{common_steps}
use Rattle.process_visits.proofs.large.some_large_term.Goals as goal

pub loop-term-preserved : goal.loop-term-preserved
loop-term-preserved g c = grind (arith, common_steps)

pub returns-then-is_large_term : goal.returns-then-is_large_term
returns-then-is_large_term g c = grind (arith, common_steps)

pub returns : goal.returns
returns g c = grind (arith, common_steps)
