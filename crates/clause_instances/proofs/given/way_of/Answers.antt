use Rattle.std.proofs.Common.{arith}
use Rattle.std.proofs.lemmas.Grind.{common_steps}
use Rattle.clause_instances.proofs.given.way_of.Goals as goal

pub returns-in-Idle-clause-way : goal.returns-in-Idle-clause-way
returns-in-Idle-clause-way c = grind (arith, common_steps)
