use Rattle.std.proofs.Common.{arith}
use Rattle.std.proofs.lemmas.Grind.{common_steps}
use Rattle.query_violations.proofs.Deciding.{of_violations}
use Rattle.query_violations.proofs.violations.violated.Goals as goal

pub returns : goal.returns
returns c = grind (arith, common_steps, of_violations)
