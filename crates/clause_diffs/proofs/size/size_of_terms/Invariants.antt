use Rattle.std.proofs.Common.{◌≡◌, take}
use Rattle.spec_trees.specs.Tree.{size}
use Rattle.spec_clauses.specs.Fact.{total}
use Rattle.term_tree.specs.Bank.{tree_at, capped}
use Rattle.clause_diffs.proofs.size.size_of_terms.Given as goal

abbrev pub invariant-loop-term : goal.invariant-loop-term
invariant-loop-term g l = l.symbols ≡ capped (total (λ id. size (tree_at (g.B.Bank.trees l.bank) id)) (take l.term-index l.terms))
