use Rattle.spec_trees.specs.Tree.{depth}
use Rattle.term_tree.specs.Bank.{tree_at}
use Rattle.fact_placing.specs.Matched.{side_matched}
use Rattle.fact_placing.proofs.InCopy.{IsCopiedTo}
use Rattle.fact_placing.proofs.copied.+copied_under.Given as goal

abbrev pub decreases-copied_under : goal.decreases-copied_under
decreases-copied_under g l = depth (tree_at (g.B.Bank.trees l.from.now.bank.now) l.id)

abbrev pub invariant-each : goal.invariant-each
invariant-each g l = IsCopiedTo (g.T.Bank.trees l.fn.into) (g.T.Bank.trees l.into) l.from.next (λ x. side_matched (g.B.Bank.trees l.from.bank.now) l.from.binds.now.pairs l.from.first (tree_at (g.B.Bank.trees l.from.bank.now) x)) l.arguments l.argument-index l.made.items
