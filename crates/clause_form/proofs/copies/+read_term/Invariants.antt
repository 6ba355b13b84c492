use Rattle.std.proofs.Common.{◌≡◌, map, take}
use Rattle.spec_trees.specs.Tree.{depth}
use Rattle.term_tree.specs.Bank.{tree_at}
use Rattle.clause_diffs.specs.Plain.{term_of}
use Rattle.clause_form.proofs.copies.+read_term.Given as goal

abbrev pub decreases-read_term : goal.decreases-read_term
decreases-read_term g l = depth (tree_at (g.B.Bank.trees l.bank.now) l.id)

abbrev pub invariant-each : goal.invariant-each
invariant-each g l = map term_of l.items.items ≡ map (tree_at (g.B.Bank.trees l.bank)) (take l.argument-index l.arguments)
