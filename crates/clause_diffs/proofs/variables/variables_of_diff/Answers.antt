use Rattle.std.proofs.Common.{arith}
use Rattle.std.proofs.lemmas.Grind.{common_steps}
use Rattle.clause_diffs.proofs.variables.variables_of_diff.Goals as goal

pub returns : goal.returns
returns g c = grind (arith, common_steps)
