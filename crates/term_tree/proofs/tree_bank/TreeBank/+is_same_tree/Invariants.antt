use Rattle.spec_trees.specs.Tree.{size}
use Rattle.term_tree.specs.Bank.{tree_at}
use Rattle.term_tree.proofs.Comparing.{IsComparing}
use Rattle.term_tree.proofs.tree_bank.TreeBank.+is_same_tree.Given as goal

abbrev pub decreases-is_same_tree : goal.decreases-is_same_tree
decreases-is_same_tree l = size (tree_at l.self.now l.left)

abbrev pub invariant-each : goal.invariant-each
invariant-each l = IsComparing l.self l.fn.left l.xs l.ys l.i
