use Rattle.std.proofs.Common.{◌≡◌, map, drop}
use Rattle.spec_calculus.specs.Values.{bound_to}
use Rattle.destructor_rules.specs.Leaves.{leaf_of}
use Rattle.destructor_rules.specs.Bindings.{binding_of}
use Rattle.destructor_rules.proofs.bindings.Bindings.look_up.Given as goal

abbrev pub invariant-loop-binding : goal.invariant-loop-binding
invariant-loop-binding l = bound_to (map binding_of (drop l.binding-index l.binding-items)) (leaf_of l.leaf) ≡ bound_to (map binding_of l.binding-items) (leaf_of l.leaf)
