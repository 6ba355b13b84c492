use Rattle.std.proofs.Common.{◌≡◌, map, drop}
use Rattle.std.specs.List.{list_any}
use Rattle.pi_tree.specs.Values.{value_of}
use Rattle.term_values.specs.Searching.{passes}
use Rattle.term_values.proofs.searching.Search.some_pass.Given as goal

abbrev pub invariant-loop-value : goal.invariant-loop-value
invariant-loop-value l = list_any (passes l.self) (map value_of (drop l.value-index l.values)) ≡ list_any (passes l.self) (map value_of l.values)
