use Rattle.std.proofs.Common.{arith}
use Rattle.std.proofs.lemmas.Grind.{common_steps}
use Rattle.term_values.proofs.evaluation.bound_shared.Goals as goal

pub returns-in_ok-held-in-Some : goal.returns-in_ok-held-in-Some
returns-in_ok-held-in-Some c = grind (arith, common_steps)

pub returns-in_ok-held-in-None : goal.returns-in_ok-held-in-None
returns-in_ok-held-in-None c = grind (arith, common_steps)
