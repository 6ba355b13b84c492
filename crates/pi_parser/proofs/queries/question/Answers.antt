-- A word of a class stands there.
use Rattle.std.proofs.Common.{arith}
use Rattle.std.proofs.lemmas.Grind.{common_steps}
use Rattle.pi_parser.proofs.queries.question.Goals as goal

pub attacker-requires-clause-room : goal.attacker-requires-clause-room
attacker-requires-clause-room c = grind (arith, common_steps)

pub correspondence-requires-clause-room : goal.correspondence-requires-clause-room
correspondence-requires-clause-room c = grind (arith, common_steps)
