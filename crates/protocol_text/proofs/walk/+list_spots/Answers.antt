use Rattle.std.proofs.Common.{arith}
use Rattle.std.proofs.lemmas.Grind.{common_steps}
use Rattle.protocol_text.proofs.walk.+list_spots.Goals as goal

pub returns-in_ok-list_spots-in-Get-clause-phases : goal.returns-in_ok-list_spots-in-Get-clause-phases
returns-in_ok-list_spots-in-Get-clause-phases t c = grind (arith, common_steps)

pub returns-in_ok-list_spots-in-Get-clause-nodes : goal.returns-in_ok-list_spots-in-Get-clause-nodes
returns-in_ok-list_spots-in-Get-clause-nodes t c = grind (arith, common_steps)

pub returns-in_ok-list_spots-in-Let-clause-phases : goal.returns-in_ok-list_spots-in-Let-clause-phases
returns-in_ok-list_spots-in-Let-clause-phases t c = grind (arith, common_steps)

pub returns-in_ok-list_spots-in-Let-clause-nodes : goal.returns-in_ok-list_spots-in-Let-clause-nodes
returns-in_ok-list_spots-in-Let-clause-nodes t c = grind (arith, common_steps)

pub returns-in_ok-list_spots-in-Par-clause-phases : goal.returns-in_ok-list_spots-in-Par-clause-phases
returns-in_ok-list_spots-in-Par-clause-phases t c = grind (arith, common_steps)

pub returns-in_ok-list_spots-in-Par-clause-nodes : goal.returns-in_ok-list_spots-in-Par-clause-nodes
returns-in_ok-list_spots-in-Par-clause-nodes t c = grind (arith, common_steps)

pub returns-in-Phase-clause-phases : goal.returns-in-Phase-clause-phases
returns-in-Phase-clause-phases t c = grind (arith, common_steps)

pub returns-in-Copies-clause-phases : goal.returns-in-Copies-clause-phases
returns-in-Copies-clause-phases t c = grind (arith, common_steps)

pub returns-in-Phase-clause-nodes : goal.returns-in-Phase-clause-nodes
returns-in-Phase-clause-nodes t c = grind (arith, common_steps)

pub returns-in-Copies-clause-nodes : goal.returns-in-Copies-clause-nodes
returns-in-Copies-clause-nodes t c = grind (arith, common_steps)

pub returns-in-Input-clause-phases : goal.returns-in-Input-clause-phases
returns-in-Input-clause-phases t c = grind (arith, common_steps)

pub returns-in-Input-clause-nodes : goal.returns-in-Input-clause-nodes
returns-in-Input-clause-nodes t c = grind (arith, common_steps)

pub returns-in-Insert-clause-phases : goal.returns-in-Insert-clause-phases
returns-in-Insert-clause-phases t c = grind (arith, common_steps)

pub returns-in-Event-clause-phases : goal.returns-in-Event-clause-phases
returns-in-Event-clause-phases t c = grind (arith, common_steps)

pub returns-in-New-clause-phases : goal.returns-in-New-clause-phases
returns-in-New-clause-phases t c = grind (arith, common_steps)

pub returns-in-Insert-clause-nodes : goal.returns-in-Insert-clause-nodes
returns-in-Insert-clause-nodes t c = grind (arith, common_steps)

pub returns-in-Event-clause-nodes : goal.returns-in-Event-clause-nodes
returns-in-Event-clause-nodes t c = grind (arith, common_steps)

pub returns-in-New-clause-nodes : goal.returns-in-New-clause-nodes
returns-in-New-clause-nodes t c = grind (arith, common_steps)

pub returns-in-Nil-clause-phases : goal.returns-in-Nil-clause-phases
returns-in-Nil-clause-phases t c = grind (arith, common_steps)

pub returns-in-Output-clause-phases : goal.returns-in-Output-clause-phases
returns-in-Output-clause-phases t c = grind (arith, common_steps)

pub returns-in-Nil-clause-nodes : goal.returns-in-Nil-clause-nodes
returns-in-Nil-clause-nodes t c = grind (arith, common_steps)

pub returns-in-Output-clause-nodes : goal.returns-in-Output-clause-nodes
returns-in-Output-clause-nodes t c = grind (arith, common_steps)
