use Rattle.std.proofs.Common.{◌≡◌, map, drop}
use Rattle.std.specs.List.{list_any}
use Rattle.pi_tree.specs.Values.{value_of}
use Rattle.query_violations.specs.Correspondences.{is_made_at}
use Rattle.query_violations.proofs.violations.knows_made.Given as goal

abbrev pub invariant-loop-value : goal.invariant-loop-value
invariant-loop-value l = list_any (is_made_at l.point) (map value_of (drop l.value-index l.value-items)) ≡ list_any (is_made_at l.point) (map value_of l.value-items)
