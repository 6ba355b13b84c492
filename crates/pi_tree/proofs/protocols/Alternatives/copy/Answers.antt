-- One item more is copied.
use Rattle.std.proofs.Common.{arith}
use Rattle.std.proofs.lemmas.Grind.{common_steps}
use Rattle.pi_tree.proofs.protocols.Alternatives.copy.Goals as goal

pub loop-atoms-preserved : goal.loop-atoms-preserved
loop-atoms-preserved c = grind (arith, common_steps)

pub returns : goal.returns
returns c = grind (arith, common_steps)
