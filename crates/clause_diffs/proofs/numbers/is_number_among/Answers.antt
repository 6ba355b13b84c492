use Rattle.std.proofs.Common.{arith}
use Rattle.std.proofs.lemmas.Grind.{common_steps}
use Rattle.clause_diffs.proofs.numbers.is_number_among.Goals as goal

pub loop-one-preserved : goal.loop-one-preserved
loop-one-preserved c = grind (arith, common_steps)

pub returns-then-number-one : goal.returns-then-number-one
returns-then-number-one c = grind (arith, common_steps)
