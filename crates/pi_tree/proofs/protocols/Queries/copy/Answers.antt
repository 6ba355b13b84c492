-- One item more is copied.
use Rattle.std.proofs.Common.{arith}
use Rattle.std.proofs.lemmas.Grind.{common_steps}
use Rattle.pi_tree.proofs.protocols.Queries.copy.Goals as goal

pub loop-query-preserved : goal.loop-query-preserved
loop-query-preserved c = grind (arith, common_steps)

pub returns : goal.returns
returns c = grind (arith, common_steps)
