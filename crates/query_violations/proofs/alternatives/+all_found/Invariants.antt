use Rattle.std.proofs.Common.{◌≡◌, ◌∷◌, ◌&&◌, length, map, drop}
use Rattle.std.specs.List.{list_any}
use Rattle.pi_tree.specs.Events.{event_of}
use Rattle.term_values.specs.Bound.{bound_of}
use Rattle.query_violations.specs.Alternatives.{found_of, missing_of}
use Rattle.query_violations.specs.Correspondences.{bound_by, fits, all_found}
use Rattle.pi_configurations.specs.Happenings.{performed_of}
use Rattle.query_violations.proofs.alternatives.+all_found.Given as goal

abbrev pub decreases-all_found : goal.decreases-all_found
decreases-all_found l = length (missing_of (found_of l.found.now) l.events.now)

abbrev pub invariant-loop-happened : goal.invariant-loop-happened
invariant-loop-happened l =
    list_any (λ p. fits (bound_of l.bound) (event_of l.event) p && all_found (missing_of (l.index ∷ found_of l.found) l.events) (bound_by (bound_of l.bound) (event_of l.event) p) (map performed_of l.performed)) (map performed_of (drop l.happened-index l.performed))
    ≡ all_found (missing_of (found_of l.found) l.events) (bound_of l.bound) (map performed_of l.performed)
