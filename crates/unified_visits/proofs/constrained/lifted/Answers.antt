use Rattle.std.proofs.Common.{arith}
use Rattle.std.proofs.lemmas.Grind.{common_steps}
use Rattle.unified_visits.proofs.constrained.lifted.Goals as goal

pub returns-clause-names : goal.returns-clause-names
returns-clause-names g c = grind (arith, common_steps)

pub returns-in_err-listed-clause-grows : goal.returns-in_err-listed-clause-grows
returns-in_err-listed-clause-grows g c = grind (arith, common_steps)

pub lifted_diffs-requires-clause-own : goal.lifted_diffs-requires-clause-own
lifted_diffs-requires-clause-own g c = grind (arith, common_steps)

pub lifted_diffs-requires-clause-known : goal.lifted_diffs-requires-clause-known
lifted_diffs-requires-clause-known g c = grind (arith, common_steps)
