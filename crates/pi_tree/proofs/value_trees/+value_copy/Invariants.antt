use Rattle.std.proofs.Common.{◌≡◌, take}
use Rattle.pi_tree.proofs.value_trees.+value_copy.Given as goal

abbrev pub invariant-Values::copy-loop-value : goal.invariant-Values::copy-loop-value
invariant-Values::copy-loop-value l = l.items.items ≡ take l.value-index l.value-items
