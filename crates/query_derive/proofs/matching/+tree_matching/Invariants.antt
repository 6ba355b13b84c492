use Rattle.std.proofs.Common.{◌+◌, ◌*◌, map, drop}
use Rattle.spec_trees.specs.Tree.{size, sizes, trees}
use Rattle.spec_terms.specs.Unifier.{MatchesAll}
use Rattle.term_tree.specs.Bank.{tree_at}
use Rattle.clause_form.specs.Plain.{term_of}
use Rattle.query_derive.proofs.Narrowing.{Remains}
use Rattle.query_derive.proofs.matching.+tree_matching.Given as goal

abbrev pub decreases-match_tree : goal.decreases-match_tree
decreases-match_tree g l = 2 * size (term_of l.tree.now)

abbrev pub decreases-match_trees : goal.decreases-match_trees
decreases-match_trees g l = 2 * sizes (trees l.trees.now) + 1

abbrev pub invariant-match_trees-each : goal.invariant-match_trees-each
invariant-match_trees-each g l = Remains (g.B.Bank.trees l.bank) l.fn.binds.pairs l.binds.pairs (λ s. MatchesAll s (map term_of l.tree-items) (map (tree_at (g.B.Bank.trees l.bank)) l.ids))
    (λ s. MatchesAll s (map term_of (drop l.i l.tree-items)) (map (tree_at (g.B.Bank.trees l.bank)) (drop l.i l.ids)))
