use Rattle.std.proofs.Common.{arith}
use Rattle.std.proofs.lemmas.Grind.{common_steps}
use Rattle.term_tree.proofs.tree_bank.TreeBankBank.app.Goals as goal

pub add-requires-clause-args : goal.add-requires-clause-args
add-requires-clause-args c = grind (arith, common_steps)
