use Rattle.std.proofs.Common.{◌≡◌, take}
use Rattle.pi_tree.proofs.protocols.Alternatives.copy.Given as goal

abbrev pub invariant-loop-atoms : goal.invariant-loop-atoms
invariant-loop-atoms l = l.items.items ≡ take l.atoms-index l.atoms-items
