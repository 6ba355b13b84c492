use Rattle.std.proofs.Common.{◌≡◌, ◌<◌, map, drop}
use Rattle.spec_trees.specs.Tree.{trees}
use Rattle.pi_tree.specs.Values.{value_of}
use Rattle.held_entries.specs.Keys.{row_key}
use Rattle.held_entries.proofs.keys.+value_key.Given as goal

abbrev pub invariant-row_key-loop-value : goal.invariant-row_key-loop-value
invariant-row_key-loop-value l = record {
  so_far : row_key l.key (trees (map value_of (drop l.value-index l.value-items))) ≡ row_key l.first (trees (map value_of l.value-items));
  small : l.key < 65521;
}
