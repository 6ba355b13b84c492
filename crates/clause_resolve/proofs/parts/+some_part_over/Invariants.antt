use Rattle.std.proofs.Common.{◌≡◌, ℕ, drop, flat_map}
use Rattle.spec_trees.specs.Tree.{depth}
use Rattle.term_tree.specs.Bank.{tree_at}
use Rattle.clause_form.proofs.Flattening.{parts_at}
use Rattle.clause_resolve.specs.Budget.{some_over}
use Rattle.term_tree.specs.Bank.{capped}
use Rattle.clause_resolve.proofs.parts.+some_part_over.Given as goal

abbrev pub decreases-some_part_over : goal.decreases-some_part_over
decreases-some_part_over g l = depth (tree_at (g.B.Bank.trees l.bank.now) l.id)

abbrev pub invariant-each : goal.invariant-each
invariant-each g l = (n : ℕ) → l.symbols ≡ capped n → some_over n (flat_map (parts_at (g.B.Bank.trees l.bank) l.phase) l.arguments) ≡ some_over n (flat_map (parts_at (g.B.Bank.trees l.bank) l.phase) (drop l.argument-index l.arguments))
