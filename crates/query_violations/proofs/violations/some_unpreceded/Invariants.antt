use Rattle.std.proofs.Common.{◌≡◌, [], map, drop, take}
use Rattle.pi_tree.specs.Events.{event_of}
use Rattle.query_violations.specs.Correspondences.{some_unpreceded}
use Rattle.pi_configurations.specs.Happenings.{performed_of}
use Rattle.query_violations.proofs.violations.some_unpreceded.Given as goal

abbrev pub invariant-loop-index : goal.invariant-loop-index
invariant-loop-index l =
    some_unpreceded (event_of l.left) l.alternatives (map performed_of (take l.index l.happened-items)) (map performed_of (drop l.index l.happened-items))
    ≡ some_unpreceded (event_of l.left) l.alternatives [] (map performed_of l.happened-items)
