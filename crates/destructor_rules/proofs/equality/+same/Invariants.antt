use Rattle.std.proofs.Common.{◌≡◌, length, map, drop}
use Rattle.spec_calculus.specs.Values.{same_values}
use Rattle.pi_tree.specs.Values.{value_of}
use Rattle.destructor_rules.proofs.equality.+same.Given as goal

abbrev pub invariant-are_same-loop-index : goal.invariant-are_same-loop-index
invariant-are_same-loop-index l = record {
  lengths : length l.lefts ≡ length l.rights;
  rest : same_values (map value_of (drop l.index l.lefts)) (map value_of (drop l.index l.rights)) ≡ same_values (map value_of l.lefts) (map value_of l.rights);
}
