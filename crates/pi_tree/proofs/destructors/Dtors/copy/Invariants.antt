use Rattle.std.proofs.Common.{◌≡◌, take}
use Rattle.pi_tree.proofs.destructors.Dtors.copy.Given as goal

abbrev pub invariant-loop-destructor : goal.invariant-loop-destructor
invariant-loop-destructor l = l.items.items ≡ take l.destructor-index l.destructor-items
