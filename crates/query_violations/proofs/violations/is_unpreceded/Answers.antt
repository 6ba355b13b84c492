use Rattle.std.proofs.Common.{rules, []}
use Rattle.pi_tree.specs.Events.{event_of}
use Rattle.term_values.specs.Bound.{bound_of}
use Rattle.pi_configurations.specs.Happenings.{performed_of}
use Rattle.query_violations.proofs.Picking.{beside-consistent}
use Rattle.query_violations.proofs.violations.is_unpreceded.Goals as goal

pub some_precede-requires : goal.some_precede-requires
some_precede-requires c =
    beside-consistent [] (bound_of c.beside-bound.result) (event_of c.args.left.now) (performed_of c.args.happened.now)
    c.beside-bound.ensures tt (search rules)
