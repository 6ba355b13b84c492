use Rattle.std.proofs.Common.{arith}
use Rattle.std.proofs.lemmas.Grind.{common_steps}
use Rattle.hv_io.proofs.entries.find.Goals as goal

pub loop-entry-preserved : goal.loop-entry-preserved
loop-entry-preserved c = grind (arith, common_steps)

pub returns-then-eq : goal.returns-then-eq
returns-then-eq c = grind (arith, common_steps)
