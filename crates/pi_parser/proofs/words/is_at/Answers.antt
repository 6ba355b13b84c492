-- A word of another class than the end stands there.
use Rattle.std.proofs.Common.{arith}
use Rattle.std.proofs.lemmas.Grind.{common_steps}
use Rattle.pi_parser.proofs.words.is_at.Goals as goal

pub returns-clause-within : goal.returns-clause-within
returns-clause-within c = grind (arith, common_steps)
