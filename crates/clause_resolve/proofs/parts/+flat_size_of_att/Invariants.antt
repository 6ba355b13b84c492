use Rattle.std.proofs.Common.{◌≡◌, take, flat_map}
use Rattle.spec_trees.specs.Tree.{depth}
use Rattle.spec_clauses.specs.Fact.{total, fact_size}
use Rattle.term_tree.specs.Bank.{tree_at, capped}
use Rattle.clause_form.proofs.Flattening.{parts_at}
use Rattle.clause_resolve.proofs.parts.+flat_size_of_att.Given as goal

abbrev pub decreases-flat_size_of_att : goal.decreases-flat_size_of_att
decreases-flat_size_of_att g l = depth (tree_at (g.B.Bank.trees l.bank.now) l.id)

abbrev pub invariant-each : goal.invariant-each
invariant-each g l = l.symbols ≡ capped (total fact_size (flat_map (parts_at (g.B.Bank.trees l.bank) l.phase) (take l.argument-index l.arguments)))
