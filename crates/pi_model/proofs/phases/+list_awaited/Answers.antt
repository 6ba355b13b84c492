use Rattle.std.proofs.Common.{arith}
use Rattle.std.proofs.lemmas.Grind.{common_steps}
use Rattle.pi_model.proofs.phases.+list_awaited.Goals as goal

pub returns-in_ok-list_awaited-in-Get : goal.returns-in_ok-list_awaited-in-Get
returns-in_ok-list_awaited-in-Get t c = grind (arith, common_steps)

pub returns-in_ok-list_awaited-in-Let : goal.returns-in_ok-list_awaited-in-Let
returns-in_ok-list_awaited-in-Let t c = grind (arith, common_steps)

pub returns-in_ok-list_awaited-in-Par : goal.returns-in_ok-list_awaited-in-Par
returns-in_ok-list_awaited-in-Par t c = grind (arith, common_steps)

pub returns-in-Insert : goal.returns-in-Insert
returns-in-Insert t c = grind (arith, common_steps)

pub returns-in-Event : goal.returns-in-Event
returns-in-Event t c = grind (arith, common_steps)

pub returns-in-Phase : goal.returns-in-Phase
returns-in-Phase t c = grind (arith, common_steps)

pub returns-in-New : goal.returns-in-New
returns-in-New t c = grind (arith, common_steps)

pub returns-in-Input : goal.returns-in-Input
returns-in-Input t c = grind (arith, common_steps)

pub returns-in-Output : goal.returns-in-Output
returns-in-Output t c = grind (arith, common_steps)

pub returns-in-Copies : goal.returns-in-Copies
returns-in-Copies t c = grind (arith, common_steps)
