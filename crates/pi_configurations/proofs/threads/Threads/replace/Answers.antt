use Rattle.std.proofs.Common.{arith}
use Rattle.std.proofs.lemmas.Grind.{common_steps}
use Rattle.pi_configurations.proofs.ThreadItems.{of_threads}
use Rattle.pi_configurations.proofs.threads.Threads.replace.Goals as goal

pub returns-then-index-len : goal.returns-then-index-len
returns-then-index-len c = grind (arith, common_steps, of_threads)
