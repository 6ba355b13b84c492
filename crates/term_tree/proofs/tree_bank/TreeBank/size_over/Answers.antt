use Rattle.std.proofs.Common.{arith}
use Rattle.std.proofs.lemmas.Grind.{common_steps}
use Rattle.term_tree.proofs.tree_bank.TreeBank.size_over.Goals as goal

pub loop-arg-preserved : goal.loop-arg-preserved
loop-arg-preserved c = grind (arith, common_steps)
