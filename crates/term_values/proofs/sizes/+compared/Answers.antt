use Rattle.std.proofs.Common.{arith}
use Rattle.std.proofs.lemmas.Grind.{common_steps}
use Rattle.term_values.proofs.Room.{of_compared, of_rooms}
use Rattle.term_values.proofs.sizes.+compared.Goals as goal

pub some_large_compared_in-loop-pattern-preserved : goal.some_large_compared_in-loop-pattern-preserved
some_large_compared_in-loop-pattern-preserved t c = grind (arith, common_steps, of_compared, of_rooms)

pub some_large_compared_in-returns-then-some_large_compared : goal.some_large_compared_in-returns-then-some_large_compared
some_large_compared_in-returns-then-some_large_compared t c = grind (arith, common_steps, of_compared, of_rooms)

pub some_large_compared_in-returns : goal.some_large_compared_in-returns
some_large_compared_in-returns t c = grind (arith, common_steps, of_compared, of_rooms)
