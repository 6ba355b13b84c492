use Rattle.std.proofs.Common.{arith}
use Rattle.std.proofs.lemmas.Grind.{common_steps}
use Rattle.term_values.proofs.evaluation.evaluate_shared.Goals as goal

pub returns-in_ok-held-in-Free : goal.returns-in_ok-held-in-Free
returns-in_ok-held-in-Free c = grind (arith, common_steps)
