use Rattle.std.proofs.Common.{◌≡◌, ◌+◌, ◌<◌, ◌≤◌, ◌^◌, ◌&&◌, true, not, map, drop}
use Rattle.spec_trees.specs.Tree.{trees, sizes, some_leaves}
use Rattle.term_tree.specs.Bank.{tree_at, AreKnown, capped}
use Rattle.term_store.proofs.shared_bank.SharedBank.measure_over.Given as goal

abbrev pub invariant-loop-arg : goal.invariant-loop-arg
invariant-loop-arg l = record {
  known : AreKnown l.self (drop l.arg-index l.args);
  some : 0 < l.size;
  small : l.size ≤ 2 ^ 63;
  counted : capped (l.size + sizes (trees (map (tree_at l.self) (drop l.arg-index l.args)))) ≡ capped (1 + sizes (trees (map (tree_at l.self) l.args)));
  closed : (l.is_ground && not (some_leaves (λ x. true) (trees (map (tree_at l.self) (drop l.arg-index l.args))))) ≡ not (some_leaves (λ x. true) (trees (map (tree_at l.self) l.args)));
}
