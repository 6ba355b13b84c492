use Rattle.std.proofs.Common.{arith, ◌+◌, sym, ap, subst, ◌∙◌}
use Rattle.std.proofs.lemmas.Grind.{common_steps}
use Rattle.pi_model.proofs.ThreadSteps.{of_hear, hear-possible}
use Rattle.pi_configurations.proofs.Points.{of_points}
use Rattle.std.specs.List.{list_any}
use Rattle.spec_calculus.specs.Limits.{is_large, terms_at}
use Rattle.spec_calculus.specs.Values.{values_of}
use Rattle.spec_calculus.specs.Runs as calculus
use Rattle.pi_tree.specs.Processes.{process_of}
use Rattle.pi_tree.specs.Protocols.{protocol_of}
use Rattle.pi_tree.specs.Terms.{term_of}
use Rattle.pi_configurations.specs.Configurations.{configuration_of}
use Rattle.pi_configurations.specs.Moves.{advanced}
use Rattle.pi_model.specs.Plans.{Stands, IsPossible}
use Rattle.pi_model.proofs.processes.hear.Goals as goal

pub overflow_add-result : goal.overflow_add-result
overflow_add-result c = grind (arith, common_steps, of_hear, of_points)

pub returns-in_ok-value-in-Output-clause-possible : goal.returns-in_ok-value-in-Output-clause-possible
returns-in_ok-value-in-Output-clause-possible c =
    let at = c.in_ok-at.at in
    subst (λ v. IsPossible (protocol_of c.args.run.now.protocol.now) (configuration_of c.args.run.now.conf.now) (calculus.Hear c.args.number) (calculus.learns (advanced (configuration_of c.args.run.now.conf.now) c.args.number (at.point + 1)) v)) (sym c.in_ok-value-in-Output.ensures)
    (hear-possible (protocol_of c.args.run.now.protocol.now) (configuration_of c.args.run.now.conf.now) c.args.number at.point at.environment.now (term_of c.in-Output.channel) (term_of c.in-Output.message) (process_of c.in-Output.field-2.value)
    (subst (λ q. Stands (protocol_of c.args.run.now.protocol.now) (configuration_of c.args.run.now.conf.now) c.args.number at.point at.environment.now (process_of q)) c.in-Output.is c.in_ok-at.ensures.stands)
    (sym c.knows.ensures ∙ c.if-not-knows.false)
    (ap (λ q. list_any is_large (values_of at.environment.now (terms_at (process_of q)))) (sym c.in-Output.is) ∙ sym c.some_large_at.ensures ∙ c.if-some_large_at.false))
