-- A list is as long as it is seen.
use Rattle.std.proofs.Common.{arith}
use Rattle.std.proofs.lemmas.Grind.{common_steps}
use Rattle.pi_tree.proofs.protocols.Protocol.count.Goals as goal

pub returns-in-Free : goal.returns-in-Free
returns-in-Free c = grind (arith, common_steps)

pub returns-in-Ctor : goal.returns-in-Ctor
returns-in-Ctor c = grind (arith, common_steps)

pub returns-in-Dtor : goal.returns-in-Dtor
returns-in-Dtor c = grind (arith, common_steps)

pub returns-in-Event : goal.returns-in-Event
returns-in-Event c = grind (arith, common_steps)

pub returns-in-Table : goal.returns-in-Table
returns-in-Table c = grind (arith, common_steps)

pub returns-in-Query : goal.returns-in-Query
returns-in-Query c = grind (arith, common_steps)
