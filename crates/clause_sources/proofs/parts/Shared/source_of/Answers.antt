use Rattle.std.proofs.Common.{arith}
use Rattle.std.proofs.lemmas.Grind.{common_steps}
use Rattle.clause_sources.proofs.parts.Shared.source_of.Goals as goal

pub returns : goal.returns
returns c = grind (arith, common_steps)
