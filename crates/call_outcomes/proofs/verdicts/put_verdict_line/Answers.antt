use Rattle.std.proofs.Common.{arith}
use Rattle.std.proofs.lemmas.Grind.{common_steps}
use Rattle.call_outcomes.proofs.verdicts.put_verdict_line.Goals as goal

pub returns-in-SizePoint : goal.returns-in-SizePoint
returns-in-SizePoint c = grind (arith, common_steps)
