use Rattle.std.proofs.Common.{arith}
use Rattle.std.proofs.lemmas.Grind.{common_steps}
use Rattle.call_outcomes.proofs.verdicts.are_proved.Goals as goal

pub returns-then-not-is_proved : goal.returns-then-not-is_proved
returns-then-not-is_proved c = grind (arith, common_steps)

pub loop-verdict-preserved : goal.loop-verdict-preserved
loop-verdict-preserved c = grind (arith, common_steps)

pub returns : goal.returns
returns c = grind (arith, common_steps)
