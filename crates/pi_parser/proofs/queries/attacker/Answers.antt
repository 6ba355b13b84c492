-- What its parts give, the query gives.
use Rattle.std.proofs.Common.{arith}
use Rattle.std.proofs.lemmas.Grind.{common_steps}
use Rattle.pi_parser.proofs.queries.attacker.Goals as goal

pub returns-in_ok-phase-clause-read : goal.returns-in_ok-phase-clause-read
returns-in_ok-phase-clause-read c = grind (arith, common_steps)

pub returns-in_ok-phase-2-clause-read : goal.returns-in_ok-phase-2-clause-read
returns-in_ok-phase-2-clause-read c = grind (arith, common_steps)

pub returns-in_err-phase-clause-read : goal.returns-in_err-phase-clause-read
returns-in_err-phase-clause-read c = grind (arith, common_steps)

pub returns-in_err-phase-2-clause-read : goal.returns-in_err-phase-2-clause-read
returns-in_err-phase-2-clause-read c = grind (arith, common_steps)

pub returns-in_err-message-clause-read : goal.returns-in_err-message-clause-read
returns-in_err-message-clause-read c = grind (arith, common_steps)

pub mark-requires-then-is_at-clause-within : goal.mark-requires-then-is_at-clause-within
mark-requires-then-is_at-clause-within c = grind (arith, common_steps)

pub returns-in_ok-phase-2-clause-within : goal.returns-in_ok-phase-2-clause-within
returns-in_ok-phase-2-clause-within c = grind (arith, common_steps)

pub returns-in_ok-phase-clause-within : goal.returns-in_ok-phase-clause-within
returns-in_ok-phase-clause-within c = grind (arith, common_steps)
