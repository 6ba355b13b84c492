use Rattle.std.proofs.Common.{◌≡◌, ◌+◌, map, drop}
use Rattle.pi_tree.specs.Events.{event_of}
use Rattle.term_values.specs.Bound.{bound_of}
use Rattle.query_violations.specs.Alternatives.{candidates}
use Rattle.pi_configurations.specs.Happenings.{performed_of}
use Rattle.query_violations.proofs.alternatives.candidates.Given as goal

abbrev pub invariant-loop-happened : goal.invariant-loop-happened
invariant-loop-happened l =
    l.count + candidates (bound_of l.bound) (map performed_of (drop l.happened-index l.performed)) (event_of l.event)
    ≡ candidates (bound_of l.bound) (map performed_of l.performed) (event_of l.event)
