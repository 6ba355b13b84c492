use Rattle.std.proofs.Common.{map}
use Rattle.term_values.specs.Bound.{bound_of}
use Rattle.query_violations.specs.Alternatives.{found_of, candidates, IsFewest}
use Rattle.pi_configurations.specs.Happenings.{performed_of}
use Rattle.query_violations.proofs.alternatives.fewest.Given as goal

abbrev pub invariant-loop-index : goal.invariant-loop-index
invariant-loop-index l = IsFewest (candidates (bound_of l.bound) (map performed_of l.performed)) (found_of l.found) l.events l.index l.best
