use Rattle.std.proofs.Common.{arith}
use Rattle.std.proofs.lemmas.Grind.{common_steps}
use Rattle.term_values.proofs.sizes.some_large_term.Goals as goal

pub returns-then-is_large_term : goal.returns-then-is_large_term
returns-then-is_large_term c = grind (arith, common_steps)

pub loop-term-preserved : goal.loop-term-preserved
loop-term-preserved c = grind (arith, common_steps)

pub returns : goal.returns
returns c = grind (arith, common_steps)
