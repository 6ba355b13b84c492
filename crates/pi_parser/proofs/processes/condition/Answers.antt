-- What its terms give, the condition gives.
use Rattle.std.proofs.Common.{arith}
use Rattle.std.proofs.lemmas.Grind.{common_steps}
use Rattle.pi_parser.proofs.processes.condition.Goals as goal

pub returns-in_ok-second-clause-read : goal.returns-in_ok-second-clause-read
returns-in_ok-second-clause-read c = grind (arith, common_steps)

pub returns-in_err-second-clause-read : goal.returns-in_err-second-clause-read
returns-in_err-second-clause-read c = grind (arith, common_steps)

pub returns-else-is_at-clause-read : goal.returns-else-is_at-clause-read
returns-else-is_at-clause-read c = grind (arith, common_steps)
