use Rattle.std.proofs.Common.{◌≡◌, ◌+◌, ◌≤◌, ◌^◌, map, drop}
use Rattle.spec_trees.specs.Tree.{trees, sizes}
use Rattle.term_tree.specs.Bank.{tree_at, AreKnown, capped}
use Rattle.term_tree.proofs.tree_bank.TreeBank.size_over.Given as goal

abbrev pub invariant-loop-arg : goal.invariant-loop-arg
invariant-loop-arg l = record {
  known : AreKnown l.self (drop l.arg-index l.args);
  small : l.total ≤ 2 ^ 63;
  counted : capped (l.total + sizes (trees (map (tree_at l.self) (drop l.arg-index l.args)))) ≡ capped (1 + sizes (trees (map (tree_at l.self) l.args)));
}
