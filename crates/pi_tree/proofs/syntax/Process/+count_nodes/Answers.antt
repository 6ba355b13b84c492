-- The nodes of both parts are counted.
use Rattle.std.proofs.Common.{arith}
use Rattle.std.proofs.lemmas.Grind.{common_steps}
use Rattle.pi_tree.proofs.syntax.Process.+count_nodes.Goals as goal

pub returns-in-Par : goal.returns-in-Par
returns-in-Par t c = grind (arith, common_steps)

pub returns-in-Let : goal.returns-in-Let
returns-in-Let t c = grind (arith, common_steps)

pub returns-in-Get : goal.returns-in-Get
returns-in-Get t c = grind (arith, common_steps)
