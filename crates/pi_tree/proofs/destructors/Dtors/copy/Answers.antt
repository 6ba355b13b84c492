-- One item more is copied.
use Rattle.std.proofs.Common.{arith}
use Rattle.std.proofs.lemmas.Grind.{common_steps}
use Rattle.pi_tree.proofs.destructors.Dtors.copy.Goals as goal

pub loop-destructor-preserved : goal.loop-destructor-preserved
loop-destructor-preserved c = grind (arith, common_steps)

pub returns : goal.returns
returns c = grind (arith, common_steps)
