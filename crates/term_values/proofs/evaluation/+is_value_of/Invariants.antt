use Rattle.std.proofs.Common.{◌≡◌, length, map, drop}
use Rattle.spec_calculus.specs.Values.{same_values, values_of}
use Rattle.pi_tree.specs.Terms.{term_of}
use Rattle.pi_tree.specs.Values.{value_of}
use Rattle.term_values.specs.Bound.{bound_of}
use Rattle.term_values.proofs.evaluation.+is_value_of.Given as goal

abbrev pub invariant-are_values_of-loop-index : goal.invariant-are_values_of-loop-index
invariant-are_values_of-loop-index l = record {
  lengths : length l.term-items ≡ length l.values;
  rest : same_values (values_of (bound_of l.bound) (map term_of (drop l.index l.term-items))) (map value_of (drop l.index l.values))
      ≡ same_values (values_of (bound_of l.bound) (map term_of l.term-items)) (map value_of l.values);
}
