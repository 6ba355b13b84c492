use Rattle.std.proofs.Common.{arith}
use Rattle.std.proofs.lemmas.Grind.{common_steps}
use Rattle.clause_sources.proofs.parts.shared_in.Goals as goal

pub returns-clause-raw : goal.returns-clause-raw
returns-clause-raw c = grind (arith, common_steps)

pub returns-clause-action : goal.returns-clause-action
returns-clause-action c = grind (arith, common_steps)
