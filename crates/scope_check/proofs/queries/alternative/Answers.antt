-- One event more, and the events within their limit.
use Rattle.std.proofs.Common.{arith}
use Rattle.std.proofs.lemmas.Grind.{common_steps}
use Rattle.scope_check.proofs.queries.alternative.Goals as goal

pub loop-atom-preserved : goal.loop-atom-preserved
loop-atom-preserved c = grind (arith, common_steps)

pub returns-in_err-asked_event-2-clause-read : goal.returns-in_err-asked_event-2-clause-read
returns-in_err-asked_event-2-clause-read c = grind (arith, common_steps)

pub returns-then-len-ge-MOST_EVENTS-clause-read : goal.returns-then-len-ge-MOST_EVENTS-clause-read
returns-then-len-ge-MOST_EVENTS-clause-read c = grind (arith, common_steps)

pub returns-clause-read : goal.returns-clause-read
returns-clause-read c = grind (arith, common_steps)

pub loop-atom-init : goal.loop-atom-init
loop-atom-init c = grind (arith, common_steps)
