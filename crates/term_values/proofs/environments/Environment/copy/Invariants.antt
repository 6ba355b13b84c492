use Rattle.std.proofs.Common.{◌≡◌, ◌++◌, map, drop}
use Rattle.term_values.specs.Bindings.{binding_of}
use Rattle.term_values.proofs.environments.Environment.copy.Given as goal

abbrev pub invariant-loop-binding : goal.invariant-loop-binding
invariant-loop-binding l = map binding_of l.items.items ++ map binding_of (drop l.binding-index l.binding-items) ≡ map binding_of l.binding-items
