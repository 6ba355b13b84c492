use Rattle.std.proofs.Common.{arith}
use Rattle.std.proofs.lemmas.Grind.{common_steps}
use Rattle.term_tree.proofs.tree_bank.TreeBank.is_ground_over.Goals as goal

pub loop-arg-preserved : goal.loop-arg-preserved
loop-arg-preserved c = grind (arith, common_steps)

pub returns-then-not-is_ground : goal.returns-then-not-is_ground
returns-then-not-is_ground c = grind (arith, common_steps)

pub returns : goal.returns
returns c = grind (arith, common_steps)
