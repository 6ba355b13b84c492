-- One more class is found.
use Rattle.std.proofs.Common.{arith}
use Rattle.std.proofs.lemmas.Grind.{common_steps}
use Rattle.pi_parser.proofs.classes_of.Goals as goal

pub class_of-requires-clause-order : goal.class_of-requires-clause-order
class_of-requires-clause-order c = grind (arith, common_steps)

pub class_of-requires-clause-within : goal.class_of-requires-clause-within
class_of-requires-clause-within c = grind (arith, common_steps)

pub tokens-preserved : goal.tokens-preserved
tokens-preserved c = grind (arith, common_steps)

pub returns : goal.returns
returns c = grind (arith, common_steps)
