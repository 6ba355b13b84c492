use Rattle.std.proofs.Common.{◌≡◌, take}
use Rattle.pi_tree.proofs.syntax.Atoms.copy.Given as goal

abbrev pub invariant-loop-atom : goal.invariant-loop-atom
invariant-loop-atom l = l.items.items ≡ take l.atom-index l.atom-items
