-- What the number gives, the phase gives.
use Rattle.std.proofs.Common.{arith}
use Rattle.std.proofs.lemmas.Grind.{common_steps}
use Rattle.pi_parser.proofs.queries.asked_phase.Goals as goal

pub returns-in_ok-behind-clause-read : goal.returns-in_ok-behind-clause-read
returns-in_ok-behind-clause-read c = grind (arith, common_steps)

pub returns-else-is_at-clause-read : goal.returns-else-is_at-clause-read
returns-else-is_at-clause-read c = grind (arith, common_steps)

pub mark-requires-clause-within : goal.mark-requires-clause-within
mark-requires-clause-within c = grind (arith, common_steps)
