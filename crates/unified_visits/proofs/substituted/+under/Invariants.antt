-- the trees get less deep
use Rattle.std.proofs.Common.{◌+◌, ◌*◌, map}
use Rattle.spec_trees.specs.Tree.{trees, depth, depths}
use Rattle.term_tree.specs.Bank.{tree_at}
use Rattle.unified_visits.proofs.Building.{AreTermsBuilt}
use Rattle.unified_visits.proofs.substituted.+under.Given as goal

abbrev pub decreases-term_under : goal.decreases-term_under
decreases-term_under g l = 2 * depth (tree_at (g.B.Bank.trees l.bank.now) l.id)

abbrev pub decreases-terms_under : goal.decreases-terms_under
decreases-terms_under g l = 2 * depths (trees (map (tree_at (g.B.Bank.trees l.bank.now)) l.terms.now)) + 1

abbrev pub invariant-terms_under-each : goal.invariant-terms_under-each
invariant-terms_under-each g l = AreTermsBuilt (g.B.Bank.trees l.fn.bank) (g.B.Bank.trees l.bank) l.binds.pairs l.terms l.term-index l.items.items l.built
