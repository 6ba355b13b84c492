use Rattle.spec_trees.specs.Tree.{depth}
use Rattle.term_tree.specs.Bank.{tree_at}
use Rattle.multiset_subsume.proofs.linking.+meet_variables.Given as goal

abbrev pub decreases-meet_variables : goal.decreases-meet_variables
decreases-meet_variables g l = depth (tree_at (g.B.Bank.trees l.bank.now) l.term)
