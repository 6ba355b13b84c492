use Rattle.std.proofs.Common.{arith}
use Rattle.std.proofs.lemmas.Grind.{common_steps}
use Rattle.clause_sources.proofs.trees.numbered_fact.Goals as goal

pub returns-in_ok-numbered_trees-in-Bad : goal.returns-in_ok-numbered_trees-in-Bad
returns-in_ok-numbered_trees-in-Bad c = grind (arith, common_steps)

pub returns-in_ok-numbered_trees-in-Mev : goal.returns-in_ok-numbered_trees-in-Mev
returns-in_ok-numbered_trees-in-Mev c = grind (arith, common_steps)

pub returns-in_ok-numbered_trees-in-Ev : goal.returns-in_ok-numbered_trees-in-Ev
returns-in_ok-numbered_trees-in-Ev c = grind (arith, common_steps)

pub returns-in_ok-message-in-Mess : goal.returns-in_ok-message-in-Mess
returns-in_ok-message-in-Mess c = grind (arith, common_steps)

pub returns-in_ok-numbered_trees-in-Tab : goal.returns-in_ok-numbered_trees-in-Tab
returns-in_ok-numbered_trees-in-Tab c = grind (arith, common_steps)

pub returns-in_ok-numbered_tree-in-Att : goal.returns-in_ok-numbered_tree-in-Att
returns-in_ok-numbered_tree-in-Att c = grind (arith, common_steps)
