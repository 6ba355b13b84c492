use Rattle.std.proofs.Common.{arith}
use Rattle.std.proofs.lemmas.Grind.{common_steps}
use Rattle.clause_sources.proofs.trees.numbered_action.Goals as goal

pub returns-in_ok-sessions-in-Reaches : goal.returns-in_ok-sessions-in-Reaches
returns-in_ok-sessions-in-Reaches c = grind (arith, common_steps)

pub returns-in-Reduces : goal.returns-in-Reduces
returns-in-Reduces c = grind (arith, common_steps)

pub returns-in-Builds : goal.returns-in-Builds
returns-in-Builds c = grind (arith, common_steps)
