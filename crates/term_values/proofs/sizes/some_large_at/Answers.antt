use Rattle.std.proofs.Common.{arith}
use Rattle.std.proofs.lemmas.Grind.{common_steps}
use Rattle.term_values.proofs.Room.{of_compared}
use Rattle.term_values.proofs.sizes.some_large_at.Goals as goal

pub returns-then-some_large_compared : goal.returns-then-some_large_compared
returns-then-some_large_compared c = grind (arith, common_steps, of_compared)

pub returns-else-some_large_compared : goal.returns-else-some_large_compared
returns-else-some_large_compared c = grind (arith, common_steps, of_compared)
