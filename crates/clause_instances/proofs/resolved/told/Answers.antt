use Rattle.std.proofs.Common.{arith}
use Rattle.std.proofs.lemmas.Grind.{common_steps}
use Rattle.clause_instances.proofs.resolved.told.Goals as goal

pub returns-clause-variables : goal.returns-clause-variables
returns-clause-variables c = grind (arith, common_steps)

pub returns-clause-lefts : goal.returns-clause-lefts
returns-clause-lefts c = grind (arith, common_steps)

pub returns-clause-rights : goal.returns-clause-rights
returns-clause-rights c = grind (arith, common_steps)

pub read_trees-requires-2 : goal.read_trees-requires-2
read_trees-requires-2 c = grind (arith, common_steps)
