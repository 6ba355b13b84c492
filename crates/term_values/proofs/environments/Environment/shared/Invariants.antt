use Rattle.std.proofs.Common.{◌≡◌, map, drop}
use Rattle.spec_calculus.specs.Values.{bound_to}
use Rattle.pi_tree.specs.Slots.{name_of}
use Rattle.term_values.specs.Bindings.{binding_of}
use Rattle.term_values.proofs.environments.Environment.shared.Given as goal

abbrev pub invariant-loop-binding : goal.invariant-loop-binding
invariant-loop-binding l = bound_to (map binding_of (drop l.binding-index l.binding-items)) (name_of l.slot) ≡ bound_to (map binding_of l.binding-items) (name_of l.slot)
