use Rattle.std.proofs.Common.{◌≡◌, length, map, drop}
use Rattle.spec_calculus.specs.Values.{same_values}
use Rattle.spec_calculus.specs.Matching.{instance_of}
use Rattle.pi_tree.specs.Terms.{term_of}
use Rattle.pi_tree.specs.Values.{value_of}
use Rattle.destructor_rules.proofs.instances.+is_instance.Given as goal

abbrev pub invariant-are_instances-loop-index : goal.invariant-are_instances-loop-index
invariant-are_instances-loop-index l = record {
  lengths : length l.term-items ≡ length l.values;
  rest : same_values (map (instance_of l.bindings) (map term_of (drop l.index l.term-items))) (map value_of (drop l.index l.values))
      ≡ same_values (map (instance_of l.bindings) (map term_of l.term-items)) (map value_of l.values);
}
