use Rattle.spec_trees.specs.Tree.{depth}
use Rattle.term_tree.specs.Bank.{tree_at}
use Rattle.spec_clauses.specs.Diff.{own}
use Rattle.fact_placing.proofs.InCopy.{IsCopiedTo}
use Rattle.fact_placing.proofs.copied.+copied_own.Given as goal

abbrev pub decreases-copied_own : goal.decreases-copied_own
decreases-copied_own g l = depth (tree_at (g.B.Bank.trees l.from.now.bank.now) l.id)

abbrev pub invariant-each : goal.invariant-each
invariant-each g l = IsCopiedTo (g.T.Bank.trees l.fn.into) (g.T.Bank.trees l.into) l.from.next (λ x. own (tree_at (g.B.Bank.trees l.from.bank.now) x)) l.arguments l.argument-index l.made.items
