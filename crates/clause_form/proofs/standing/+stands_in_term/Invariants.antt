use Rattle.std.proofs.Common.{◌≡◌, nat_eq, drop, flat_map}
use Rattle.std.specs.List.{list_any}
use Rattle.spec_trees.specs.Tree.{depth}
use Rattle.spec_clauses.specs.Variables.{leaves}
use Rattle.term_tree.specs.Bank.{tree_at}
use Rattle.clause_diffs.proofs.Counting.{leaves_at}
use Rattle.clause_form.proofs.standing.+stands_in_term.Given as goal

abbrev pub decreases-stands_in_term : goal.decreases-stands_in_term
decreases-stands_in_term g l = depth (tree_at (g.B.Bank.trees l.bank.now) l.id)

abbrev pub invariant-each : goal.invariant-each
invariant-each g l = list_any (nat_eq l.number) (leaves (tree_at (g.B.Bank.trees l.bank) l.fn.id)) ≡ list_any (nat_eq l.number) (flat_map (leaves_at (g.B.Bank.trees l.bank)) (drop l.argument-index l.arguments))
