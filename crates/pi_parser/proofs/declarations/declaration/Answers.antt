-- A word of a class stands there.
use Rattle.std.proofs.Common.{arith}
use Rattle.std.proofs.lemmas.Grind.{common_steps}
use Rattle.pi_parser.proofs.declarations.declaration.Goals as goal

pub private-requires-clause-room : goal.private-requires-clause-room
private-requires-clause-room c = grind (arith, common_steps)

pub free-requires-clause-room : goal.free-requires-clause-room
free-requires-clause-room c = grind (arith, common_steps)

pub fun-requires-clause-room : goal.fun-requires-clause-room
fun-requires-clause-room c = grind (arith, common_steps)

pub data-requires-clause-room : goal.data-requires-clause-room
data-requires-clause-room c = grind (arith, common_steps)

pub reduc-requires-clause-room : goal.reduc-requires-clause-room
reduc-requires-clause-room c = grind (arith, common_steps)

pub event-requires-clause-room : goal.event-requires-clause-room
event-requires-clause-room c = grind (arith, common_steps)

pub table-requires-clause-room : goal.table-requires-clause-room
table-requires-clause-room c = grind (arith, common_steps)

pub query-requires-clause-room : goal.query-requires-clause-room
query-requires-clause-room c = grind (arith, common_steps)

pub definition-requires-clause-room : goal.definition-requires-clause-room
definition-requires-clause-room c = grind (arith, common_steps)
