use Rattle.std.proofs.Common.{◌≡◌, take}
use Rattle.pi_tree.proofs.names.Declarations.copy.Given as goal

abbrev pub invariant-loop-declared : goal.invariant-loop-declared
invariant-loop-declared l = l.items.items ≡ take l.declared-index l.declared-items
