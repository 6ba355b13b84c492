use Rattle.std.proofs.Common.{◌≡◌, map, drop}
use Rattle.spec_trees.specs.Tree.{trees}
use Rattle.spec_trees.specs.Leaves.{row_leaves}
use Rattle.pi_tree.specs.Expressions.{expression_of}
use Rattle.clause_terms.specs.Scopes.{scope_at}
use Rattle.unified_visits.specs.Places.{protocol_at}
use Rattle.process_visits.specs.Forms.{are_large_in}
use Rattle.process_visits.proofs.large.+parts.Given as goal

abbrev pub invariant-some_large_part-loop-part : goal.invariant-some_large_part-loop-part
invariant-some_large_part-loop-part g l =
    are_large_in (protocol_at l.place) (scope_at (g.B.Bank.trees l.bank) l.scope) (row_leaves (trees (map expression_of (drop l.part-index l.part-items))))
    ≡ are_large_in (protocol_at l.place) (scope_at (g.B.Bank.trees l.bank) l.scope) (row_leaves (trees (map expression_of l.part-items)))
