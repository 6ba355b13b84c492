use Rattle.std.proofs.Common.{◌≡◌, drop}
use Rattle.spec_trees.specs.Tree.{depth}
use Rattle.spec_clauses.specs.Diff.{same_sides}
use Rattle.term_tree.specs.Bank.{tree_at}
use Rattle.clause_diffs.specs.Diffs.{sides_at}
use Rattle.fact_placing.specs.Matched.{sides_matched}
use Rattle.fact_placing.proofs.alike.+is_side_under.Given as goal

abbrev pub decreases-is_side_under : goal.decreases-is_side_under
decreases-is_side_under g l = depth (tree_at (g.B.Bank.trees l.from.now.bank.now) l.left)

abbrev pub invariant-each : goal.invariant-each
invariant-each g l =
    same_sides (sides_matched (g.B.Bank.trees l.from.bank.now) l.from.binds.now.pairs l.from.first l.xs) (sides_at (g.B.Bank.trees l.from.bank.now) l.other l.ys)
    ≡ same_sides (sides_matched (g.B.Bank.trees l.from.bank.now) l.from.binds.now.pairs l.from.first (drop l.i l.xs)) (sides_at (g.B.Bank.trees l.from.bank.now) l.other (drop l.i l.ys))
