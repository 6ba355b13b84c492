use Rattle.std.proofs.Common.{arith}
use Rattle.std.proofs.lemmas.Grind.{common_steps}
use Rattle.process_visits.proofs.Tests.{of_lists}
use Rattle.process_visits.proofs.large.+parts.Goals as goal

pub some_large_part-loop-part-preserved : goal.some_large_part-loop-part-preserved
some_large_part-loop-part-preserved g t c = grind (arith, common_steps, of_lists)

pub some_large_part-returns-then-some_large_in : goal.some_large_part-returns-then-some_large_in
some_large_part-returns-then-some_large_in g t c = grind (arith, common_steps, of_lists)

pub some_large_part-returns : goal.some_large_part-returns
some_large_part-returns g t c = grind (arith, common_steps, of_lists)
