-- A walk ends in the first part, or goes on in the second.
use Rattle.std.proofs.Common.{arith}
use Rattle.std.proofs.lemmas.Grind.{common_steps}
use Rattle.pi_tree.proofs.Walks.{of_walks}
use Rattle.pi_tree.proofs.syntax.Process.+walk.Goals as goal

pub returns-in-At : goal.returns-in-At
returns-in-At t c = grind (arith, common_steps, of_walks)

pub returns-in-At-walk : goal.returns-in-At-walk
returns-in-At-walk t c = grind (arith, common_steps, of_walks)

pub returns-in-Past : goal.returns-in-Past
returns-in-Past t c = grind (arith, common_steps, of_walks)

pub returns-in-Past-walk : goal.returns-in-Past-walk
returns-in-Past-walk t c = grind (arith, common_steps, of_walks)
