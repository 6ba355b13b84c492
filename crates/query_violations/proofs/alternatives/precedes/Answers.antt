use Rattle.std.proofs.Common.{arith}
use Rattle.std.proofs.lemmas.Grind.{common_steps}
use Rattle.query_violations.proofs.Searching.{of_search}
use Rattle.query_violations.proofs.alternatives.precedes.Goals as goal

pub returns : goal.returns
returns c = grind (arith, common_steps, of_search)
