use Rattle.std.proofs.Common.{◌≡◌, drop}
use Rattle.spec_trees.specs.Tree.{depth}
use Rattle.spec_clauses.specs.Diff.{same_sides}
use Rattle.term_tree.specs.Bank.{tree_at}
use Rattle.clause_diffs.specs.Diffs.{sides_at}
use Rattle.clause_diffs.proofs.same.+is_same_side.Given as goal

abbrev pub decreases-is_same_side : goal.decreases-is_same_side
decreases-is_same_side g l = depth (tree_at (g.B.Bank.trees l.bank.now) l.left)

abbrev pub invariant-each : goal.invariant-each
invariant-each g l =
    same_sides (sides_at (g.B.Bank.trees l.bank) l.first l.xs) (sides_at (g.B.Bank.trees l.bank) l.other l.ys)
    ≡ same_sides (sides_at (g.B.Bank.trees l.bank) l.first (drop l.i l.xs)) (sides_at (g.B.Bank.trees l.bank) l.other (drop l.i l.ys))
