-- the trees get less deep
use Rattle.std.proofs.Common.{◌+◌, ◌*◌, map}
use Rattle.spec_trees.specs.Tree.{trees, depth, depths}
use Rattle.term_tree.specs.Bank.{tree_at}
use Rattle.clause_resolve.specs.Lifting.{lifted_by}
use Rattle.clause_resolve.proofs.SpendingLaws.{AreApplied}
use Rattle.clause_resolve.proofs.lifting.+sides.Given as goal

abbrev pub decreases-lifted_term : goal.decreases-lifted_term
decreases-lifted_term g l = 2 * depth (tree_at (g.B.Bank.trees l.bank.now) l.id)

abbrev pub decreases-lifted_terms : goal.decreases-lifted_terms
decreases-lifted_terms g l = 2 * depths (trees (map (tree_at (g.B.Bank.trees l.bank.now)) l.terms.now)) + 1

abbrev pub invariant-lifted_terms-each : goal.invariant-lifted_terms-each
invariant-lifted_terms-each g l = AreApplied (g.B.Bank.trees l.fn.bank) (g.B.Bank.trees l.bank) (lifted_by (g.B.Bank.trees l.fn.bank) l.fn.lift) l.terms l.term-index l.items.items l.fn.left l.left
