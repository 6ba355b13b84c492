use Rattle.std.proofs.Common.{◌+◌, ap, subst, ◌∙◌, arith}
use Rattle.spec_calculus.specs.Points.{point_after}
use Rattle.pi_tree.specs.Processes.{process_of}
use Rattle.pi_tree.specs.Protocols.{protocol_of}
use Rattle.pi_configurations.specs.Configurations.{configuration_of}
use Rattle.pi_model.specs.Plans.{Stands}
use Rattle.pi_model.proofs.ThreadSteps.{split-possible, of_split}
use Rattle.std.proofs.lemmas.Grind.{common_steps}
use Rattle.pi_configurations.proofs.Points.{of_points}
use Rattle.pi_model.proofs.processes.split.Goals as goal

pub returns-in_ok-copy-in-Par-clause-possible : goal.returns-in_ok-copy-in-Par-clause-possible
returns-in_ok-copy-in-Par-clause-possible c =
    let at = c.in_ok-at.at in
    split-possible (protocol_of c.args.run.now.protocol.now) (configuration_of c.args.run.now.conf.now) c.args.number at.point c.point_after-right.result at.environment.now c.in_ok-copy-in-Par.field-0
    (process_of c.in-Par.left.value) (process_of c.in-Par.field-1.value)
    (subst (λ q. Stands (protocol_of c.args.run.now.protocol.now) (configuration_of c.args.run.now.conf.now) c.args.number at.point at.environment.now (process_of q)) c.in-Par.is c.in_ok-at.ensures.stands)
    (c.point_after-right.ensures ∙ ap (λ q. point_after (at.point + 1) (process_of q)) c.deref.ensures)
    c.in_ok-copy-in-Par.ensures

pub overflow_add-at : goal.overflow_add-at
overflow_add-at c = grind (arith, common_steps, of_split, of_points)

pub point_after-right-requires : goal.point_after-right-requires
point_after-right-requires c = grind (arith, common_steps, of_split, of_points)
