-- Copies of the parts make a copy.
use Rattle.std.proofs.Common.{arith}
use Rattle.std.proofs.lemmas.Grind.{common_steps}
use Rattle.pi_tree.proofs.syntax.Process.+boxed_copy.Goals as goal

pub returns-in_ok-next-in-Output : goal.returns-in_ok-next-in-Output
returns-in_ok-next-in-Output t c = grind (arith, common_steps)

pub returns-in_ok-next-in-Input : goal.returns-in_ok-next-in-Input
returns-in_ok-next-in-Input t c = grind (arith, common_steps)

pub returns-in_ok-right-in-Par : goal.returns-in_ok-right-in-Par
returns-in_ok-right-in-Par t c = grind (arith, common_steps)

pub returns-in_ok-copied-in-Copies : goal.returns-in_ok-copied-in-Copies
returns-in_ok-copied-in-Copies t c = grind (arith, common_steps)

pub returns-in_ok-word-in-New : goal.returns-in_ok-word-in-New
returns-in_ok-word-in-New t c = grind (arith, common_steps)

pub returns-in_ok-otherwise-in-Let : goal.returns-in_ok-otherwise-in-Let
returns-in_ok-otherwise-in-Let t c = grind (arith, common_steps)

pub returns-in_ok-atom-in-Event : goal.returns-in_ok-atom-in-Event
returns-in_ok-atom-in-Event t c = grind (arith, common_steps)

pub returns-in_ok-next-in-Phase : goal.returns-in_ok-next-in-Phase
returns-in_ok-next-in-Phase t c = grind (arith, common_steps)

pub returns-in_ok-arguments-in-Insert : goal.returns-in_ok-arguments-in-Insert
returns-in_ok-arguments-in-Insert t c = grind (arith, common_steps)

pub returns-in_ok-patterns-in-Get : goal.returns-in_ok-patterns-in-Get
returns-in_ok-patterns-in-Get t c = grind (arith, common_steps)
