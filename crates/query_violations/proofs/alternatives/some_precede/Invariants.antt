use Rattle.std.proofs.Common.{◌≡◌, map, drop}
use Rattle.std.specs.List.{list_any}
use Rattle.term_values.specs.Bound.{bound_of}
use Rattle.query_violations.specs.Correspondences.{all_found}
use Rattle.pi_configurations.specs.Happenings.{performed_of}
use Rattle.query_violations.proofs.alternatives.some_precede.Given as goal

abbrev pub invariant-loop-alternative : goal.invariant-loop-alternative
invariant-loop-alternative l =
    list_any (λ alternative. all_found alternative (bound_of l.bound) (map performed_of l.performed)) (drop l.alternative-index l.alternative-items)
    ≡ list_any (λ alternative. all_found alternative (bound_of l.bound) (map performed_of l.performed)) l.alternative-items
