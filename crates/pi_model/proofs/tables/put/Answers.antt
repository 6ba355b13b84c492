use Rattle.std.proofs.Common.{arith}
use Rattle.std.proofs.lemmas.Grind.{common_steps}
use Rattle.pi_model.proofs.tables.put.Goals as goal

pub returns-in_ok-args-in-Insert-clause-possible : goal.returns-in_ok-args-in-Insert-clause-possible
returns-in_ok-args-in-Insert-clause-possible c = grind (arith, common_steps)
