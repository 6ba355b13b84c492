use Rattle.std.proofs.Common.{◌≡◌, true, map, drop}
use Rattle.spec_trees.specs.Tree.{trees, some_leaves}
use Rattle.term_tree.specs.Bank.{tree_at, AreKnown}
use Rattle.term_tree.proofs.tree_bank.TreeBank.is_ground_over.Given as goal

abbrev pub invariant-loop-arg : goal.invariant-loop-arg
invariant-loop-arg l = record {
  known : AreKnown l.self (drop l.arg-index l.args);
  rest : some_leaves (λ x. true) (trees (map (tree_at l.self) l.args)) ≡ some_leaves (λ x. true) (trees (map (tree_at l.self) (drop l.arg-index l.args)));
}
