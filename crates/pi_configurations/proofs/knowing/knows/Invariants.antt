use Rattle.std.proofs.Common.{◌≡◌, map, drop}
use Rattle.std.specs.List.{list_any}
use Rattle.spec_calculus.specs.Values.{same_value, value_of}
use Rattle.pi_tree.specs.Terms.{term_of}
use Rattle.pi_tree.specs.Values as seen
use Rattle.term_values.specs.Bound.{bound_of}
use Rattle.pi_configurations.proofs.knowing.knows.Given as goal

abbrev pub invariant-loop-value : goal.invariant-loop-value
invariant-loop-value l =
    list_any (same_value (value_of (bound_of l.bound) (term_of l.term))) (map seen.value_of (drop l.value-index l.value-items)) ≡ list_any (same_value (value_of (bound_of l.bound) (term_of l.term))) (map seen.value_of l.value-items)
