use Rattle.std.proofs.Common.{arith}
use Rattle.std.proofs.lemmas.Grind.{common_steps}
use Rattle.process_visits.proofs.Tests.{of_lists}
use Rattle.process_visits.proofs.large.+compared.Goals as goal

pub some_large_compared_in-loop-pattern-preserved : goal.some_large_compared_in-loop-pattern-preserved
some_large_compared_in-loop-pattern-preserved g t c = grind (arith, common_steps, of_lists)

pub some_large_compared_in-returns-then-some_large_compared : goal.some_large_compared_in-returns-then-some_large_compared
some_large_compared_in-returns-then-some_large_compared g t c = grind (arith, common_steps, of_lists)

pub some_large_compared_in-returns : goal.some_large_compared_in-returns
some_large_compared_in-returns g t c = grind (arith, common_steps, of_lists)
