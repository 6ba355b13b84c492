use Rattle.std.proofs.Common.{arith}
use Rattle.std.proofs.lemmas.Grind.{common_steps}
use Rattle.process_visits.proofs.Tests.{of_lists}
use Rattle.process_visits.proofs.large.is_large_let.Goals as goal

pub returns-else-some_large_compared : goal.returns-else-some_large_compared
returns-else-some_large_compared g c = grind (arith, common_steps, of_lists)

pub returns-then-some_large_compared : goal.returns-then-some_large_compared
returns-then-some_large_compared g c = grind (arith, common_steps, of_lists)
