use Rattle.std.proofs.Common.{◌≡◌, ◌++◌, map, drop}
use Rattle.spec_calculus.specs.Matching.{instance_of}
use Rattle.pi_tree.specs.Terms.{term_of}
use Rattle.pi_tree.specs.Values.{value_of}
use Rattle.destructor_rules.proofs.instances.+instance.Given as goal

abbrev pub invariant-instances-loop-term : goal.invariant-instances-loop-term
invariant-instances-loop-term l =
    map value_of l.items.items ++ map (instance_of l.bindings) (map term_of (drop l.term-index l.term-items)) ≡ map (instance_of l.bindings) (map term_of l.term-items)
