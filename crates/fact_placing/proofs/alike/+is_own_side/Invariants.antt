use Rattle.std.proofs.Common.{◌≡◌, drop}
use Rattle.spec_trees.specs.Tree.{depth}
use Rattle.spec_clauses.specs.Diff.{same_sides}
use Rattle.term_tree.specs.Bank.{tree_at}
use Rattle.clause_diffs.specs.Diffs.{sides_at}
use Rattle.fact_placing.specs.Matched.{own_sides}
use Rattle.fact_placing.proofs.alike.+is_own_side.Given as goal

abbrev pub decreases-is_own_side : goal.decreases-is_own_side
decreases-is_own_side g l = depth (tree_at (g.B.Bank.trees l.bank.now) l.left)

abbrev pub invariant-each : goal.invariant-each
invariant-each g l =
    same_sides (own_sides (g.B.Bank.trees l.bank) l.xs) (sides_at (g.B.Bank.trees l.bank) l.other l.ys)
    ≡ same_sides (own_sides (g.B.Bank.trees l.bank) (drop l.i l.xs)) (sides_at (g.B.Bank.trees l.bank) l.other (drop l.i l.ys))
