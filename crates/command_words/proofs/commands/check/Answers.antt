use Rattle.std.proofs.Common.{arith}
use Rattle.std.proofs.lemmas.Grind.{common_steps}
use Rattle.command_words.proofs.commands.check.Goals as goal

pub returns-clause-shape : goal.returns-clause-shape
returns-clause-shape c = grind (arith, common_steps)

pub returns-clause-local : goal.returns-clause-local
returns-clause-local c = grind (arith, common_steps)
