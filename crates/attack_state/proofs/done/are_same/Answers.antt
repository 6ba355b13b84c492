use Rattle.std.proofs.Common.{arith}
use Rattle.std.proofs.lemmas.Grind.{common_steps}
use Rattle.attack_state.proofs.done.are_same.Goals as goal

pub returns-then-term-right : goal.returns-then-term-right
returns-then-term-right c = grind (arith, common_steps)

pub each-preserved : goal.each-preserved
each-preserved c = grind (arith, common_steps)
