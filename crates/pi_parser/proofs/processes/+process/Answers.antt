-- A class has its alternative, and what its parts give, a unit gives.
use Rattle.std.proofs.Common.{arith}
use Rattle.std.proofs.lemmas.Grind.{common_steps}
use Rattle.pi_parser.proofs.Levels.{unit_deeper, unit_other, process_deeper, process_bottom, unit_bottom}
use Rattle.pi_parser.proofs.processes.+process.Goals as goal

pub unit-inner-requires : goal.unit-inner-requires
unit-inner-requires t c = grind (arith, common_steps)

pub unit-replicated-requires : goal.unit-replicated-requires
unit-replicated-requires t c = grind (arith, common_steps)

pub unit-new-requires : goal.unit-new-requires
unit-new-requires t c = grind (arith, common_steps)

pub unit-output-requires : goal.unit-output-requires
unit-output-requires t c = grind (arith, common_steps)

pub unit-input-requires : goal.unit-input-requires
unit-input-requires t c = grind (arith, common_steps)

pub unit-happens-requires : goal.unit-happens-requires
unit-happens-requires t c = grind (arith, common_steps)

pub unit-let_in-requires : goal.unit-let_in-requires
unit-let_in-requires t c = grind (arith, common_steps)

pub unit-if_then-requires : goal.unit-if_then-requires
unit-if_then-requires t c = grind (arith, common_steps)

pub unit-phase-requires : goal.unit-phase-requires
unit-phase-requires t c = grind (arith, common_steps)

pub unit-insert-requires : goal.unit-insert-requires
unit-insert-requires t c = grind (arith, common_steps)

pub unit-get_in-requires : goal.unit-get_in-requires
unit-get_in-requires t c = grind (arith, common_steps)

pub unit-returns-in-Zero-clause-within : goal.unit-returns-in-Zero-clause-within
unit-returns-in-Zero-clause-within t c = grind (arith, common_steps)

pub unit-returns-in-Name-clause-within : goal.unit-returns-in-Name-clause-within
unit-returns-in-Name-clause-within t c = grind (arith, common_steps)

pub unit-returns-in-Zero-clause-read : goal.unit-returns-in-Zero-clause-read
unit-returns-in-Zero-clause-read t c = grind (arith, unit_deeper)

pub unit-returns-in-Name-clause-read : goal.unit-returns-in-Name-clause-read
unit-returns-in-Name-clause-read t c = grind (arith, unit_deeper)

pub unit-returns-in-Open-clause-read : goal.unit-returns-in-Open-clause-read
unit-returns-in-Open-clause-read t c = grind (arith, unit_deeper)

pub unit-returns-in-Bang-clause-read : goal.unit-returns-in-Bang-clause-read
unit-returns-in-Bang-clause-read t c = grind (arith, unit_deeper)

pub unit-returns-in-New-clause-read : goal.unit-returns-in-New-clause-read
unit-returns-in-New-clause-read t c = grind (arith, unit_deeper)

pub unit-returns-in-Out-clause-read : goal.unit-returns-in-Out-clause-read
unit-returns-in-Out-clause-read t c = grind (arith, unit_deeper)

pub unit-returns-in-In-clause-read : goal.unit-returns-in-In-clause-read
unit-returns-in-In-clause-read t c = grind (arith, unit_deeper)

pub unit-returns-in-Event-clause-read : goal.unit-returns-in-Event-clause-read
unit-returns-in-Event-clause-read t c = grind (arith, unit_deeper)

pub unit-returns-in-Let-clause-read : goal.unit-returns-in-Let-clause-read
unit-returns-in-Let-clause-read t c = grind (arith, unit_deeper)

pub unit-returns-in-If-clause-read : goal.unit-returns-in-If-clause-read
unit-returns-in-If-clause-read t c = grind (arith, unit_deeper)

pub unit-returns-in-Phase-clause-read : goal.unit-returns-in-Phase-clause-read
unit-returns-in-Phase-clause-read t c = grind (arith, unit_deeper)

pub unit-returns-in-Insert-clause-read : goal.unit-returns-in-Insert-clause-read
unit-returns-in-Insert-clause-read t c = grind (arith, unit_deeper)

pub unit-returns-in-Get-clause-read : goal.unit-returns-in-Get-clause-read
unit-returns-in-Get-clause-read t c = grind (arith, unit_deeper)

pub unit-returns-in_default : goal.unit-returns-in_default
unit-returns-in_default t c = grind (arith, unit_deeper, unit_other)

pub process-returns-in_ok-new-clause-read : goal.process-returns-in_ok-new-clause-read
process-returns-in_ok-new-clause-read t c = grind (arith, process_deeper)

pub process-returns-in_err-others-clause-read : goal.process-returns-in_err-others-clause-read
process-returns-in_err-others-clause-read t c = grind (arith, process_deeper)

pub process-returns-else-is_at-clause-read : goal.process-returns-else-is_at-clause-read
process-returns-else-is_at-clause-read t c = grind (arith, process_deeper)

pub input-returns-in_err-next-clause-read : goal.input-returns-in_err-next-clause-read
input-returns-in_err-next-clause-read t c = grind (arith, common_steps)

pub output-returns-in_err-next-clause-read : goal.output-returns-in_err-next-clause-read
output-returns-in_err-next-clause-read t c = grind (arith, common_steps)

pub let_in-returns-in_err-unit-clause-read : goal.let_in-returns-in_err-unit-clause-read
let_in-returns-in_err-unit-clause-read t c = grind (arith, common_steps)

pub if_then-returns-in_err-unit-clause-read : goal.if_then-returns-in_err-unit-clause-read
if_then-returns-in_err-unit-clause-read t c = grind (arith, common_steps)

pub get_in-returns-in_err-unit-clause-read : goal.get_in-returns-in_err-unit-clause-read
get_in-returns-in_err-unit-clause-read t c = grind (arith, common_steps)

pub get_in-returns-clause-read : goal.get_in-returns-clause-read
get_in-returns-clause-read t c = grind (arith, common_steps)

pub get_in-returns-clause-within : goal.get_in-returns-clause-within
get_in-returns-clause-within t c = grind (arith, common_steps)

pub insert-returns-clause-read : goal.insert-returns-clause-read
insert-returns-clause-read t c = grind (arith, common_steps)

pub let_in-returns-clause-read : goal.let_in-returns-clause-read
let_in-returns-clause-read t c = grind (arith, common_steps)

pub if_then-returns-clause-read : goal.if_then-returns-clause-read
if_then-returns-clause-read t c = grind (arith, common_steps)

pub input-returns-clause-read : goal.input-returns-clause-read
input-returns-clause-read t c = grind (arith, common_steps)

pub output-returns-clause-read : goal.output-returns-clause-read
output-returns-clause-read t c = grind (arith, common_steps)

pub process-returns-in_ok-new-clause-within : goal.process-returns-in_ok-new-clause-within
process-returns-in_ok-new-clause-within t c = grind (arith, common_steps)

pub next-returns-in_ok-new-clause-read : goal.next-returns-in_ok-new-clause-read
next-returns-in_ok-new-clause-read t c = grind (arith, common_steps)

pub inner-returns-clause-read : goal.inner-returns-clause-read
inner-returns-clause-read t c = grind (arith, common_steps)

pub input-returns-clause-within : goal.input-returns-clause-within
input-returns-clause-within t c = grind (arith, common_steps)

pub output-returns-clause-within : goal.output-returns-clause-within
output-returns-clause-within t c = grind (arith, common_steps)

pub let_in-returns-clause-within : goal.let_in-returns-clause-within
let_in-returns-clause-within t c = grind (arith, common_steps)

pub if_then-returns-clause-within : goal.if_then-returns-clause-within
if_then-returns-clause-within t c = grind (arith, common_steps)

pub process-process-requires : goal.process-process-requires
process-process-requires t c = grind (arith, common_steps)

pub branches-returns-clause-read : goal.branches-returns-clause-read
branches-returns-clause-read t c = grind (arith, common_steps)

pub new-returns-clause-read : goal.new-returns-clause-read
new-returns-clause-read t c = grind (arith, common_steps)

pub phase-returns-clause-read : goal.phase-returns-clause-read
phase-returns-clause-read t c = grind (arith, common_steps)

pub happens-returns-clause-read : goal.happens-returns-clause-read
happens-returns-clause-read t c = grind (arith, common_steps)

pub next-returns-else-is_at-clause-read : goal.next-returns-else-is_at-clause-read
next-returns-else-is_at-clause-read t c = grind (arith, common_steps)

pub replicated-returns-clause-read : goal.replicated-returns-clause-read
replicated-returns-clause-read t c = grind (arith, common_steps)

pub unit-returns-then-left-eq0-clause-read : goal.unit-returns-then-left-eq0-clause-read
unit-returns-then-left-eq0-clause-read t c = grind (arith, unit_bottom)

pub process-returns-then-left-eq0-clause-read : goal.process-returns-then-left-eq0-clause-read
process-returns-then-left-eq0-clause-read t c = grind (arith, process_bottom)

pub process-returns-in_err-unit-clause-read : goal.process-returns-in_err-unit-clause-read
process-returns-in_err-unit-clause-read t c = grind (arith, process_deeper)
