use Rattle.std.proofs.Common.{◌≡◌, take, flat_map}
use Rattle.spec_trees.specs.Tree.{depth}
use Rattle.term_tree.specs.Bank.{tree_at}
use Rattle.clause_form.specs.Keys.{keyed}
use Rattle.clause_form.proofs.Keying.{numbers_at}
use Rattle.clause_form.proofs.keys.+key_of_term.Given as goal

abbrev pub decreases-key_of_term : goal.decreases-key_of_term
decreases-key_of_term g l = depth (tree_at (g.B.Bank.trees l.bank.now) l.id)

abbrev pub invariant-each : goal.invariant-each
invariant-each g l = l.found ≡ keyed l.initial.found (flat_map (numbers_at (g.B.Bank.trees l.bank)) (take l.argument-index l.arguments))
