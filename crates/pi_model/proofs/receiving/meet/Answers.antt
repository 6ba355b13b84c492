use Rattle.std.proofs.Common.{◌+◌, ◌||◌, sym, ap, subst, ◌∙◌, arith}
use Rattle.std.specs.List.{list_any}
use Rattle.spec_calculus.specs.Limits.{is_large, terms_at}
use Rattle.spec_calculus.specs.Matching.{matched}
use Rattle.spec_calculus.specs.Runs as calculus
use Rattle.spec_calculus.specs.Runs.{received}
use Rattle.spec_calculus.specs.Values as values
use Rattle.spec_calculus.specs.Values.{values_of, same_value}
use Rattle.pi_tree.specs.declared.syntax.Process.TheVariants.{Input}
use Rattle.pi_tree.specs.Patterns.{pattern_of}
use Rattle.pi_tree.specs.Processes.{process_of}
use Rattle.pi_tree.specs.Protocols.{protocol_of}
use Rattle.pi_tree.specs.Terms.{term_of}
use Rattle.pi_configurations.specs.Configurations.{configuration_of}
use Rattle.pi_configurations.specs.Moves.{advanced}
use Rattle.pi_model.specs.Plans.{Stands, IsPossible}
use Rattle.pi_model.proofs.Passing.{pass-differ, pass-large, pass-possible, of_meeting}
use Rattle.std.proofs.lemmas.Grind.{common_steps}
use Rattle.pi_configurations.proofs.Points.{of_points}
use Rattle.pi_model.proofs.receiving.meet.Goals as goal

pub returns-then-not-same-clause-refused : goal.returns-then-not-same-clause-refused
returns-then-not-same-clause-refused c =
    let from = c.args.from.now in
    let to = c.args.to.now in
    pass-differ (protocol_of c.args.run.now.protocol.now) (configuration_of c.args.run.now.conf.now) c.args.sender c.args.receiver from.point to.point from.environment.now to.environment.now
    (term_of c.in-Output.channel) (term_of c.in-Output.message) (term_of c.in-Input.on) (pattern_of c.in-Input.pattern) (process_of c.in-Output.field-2.value) (process_of c.in-Input.field-2.value)
    (subst (λ q. Stands (protocol_of c.args.run.now.protocol.now) (configuration_of c.args.run.now.conf.now) c.args.sender from.point from.environment.now (process_of q)) c.in-Output.is c.requires.sends)
    (subst (λ q. Stands (protocol_of c.args.run.now.protocol.now) (configuration_of c.args.run.now.conf.now) c.args.receiver to.point to.environment.now (process_of q)) c.in-Input.is c.requires.receives)
    (ap (same_value (values.value_of to.environment.now (term_of c.in-Input.on))) (sym c.in_ok-channel-in-Input.ensures) ∙ sym c.is_value_of-same.ensures ∙ c.if-not-same.true)

pub returns-then-some_large_at_either-clause-refused : goal.returns-then-some_large_at_either-clause-refused
returns-then-some_large_at_either-clause-refused c =
    let from = c.args.from.now in
    let to = c.args.to.now in
    pass-large (protocol_of c.args.run.now.protocol.now) (configuration_of c.args.run.now.conf.now) c.args.sender c.args.receiver from.point to.point from.environment.now to.environment.now
    (term_of c.in-Output.channel) (term_of c.in-Output.message) (term_of c.in-Input.on) (pattern_of c.in-Input.pattern) (process_of c.in-Output.field-2.value) (process_of c.in-Input.field-2.value)
    (subst (λ q. Stands (protocol_of c.args.run.now.protocol.now) (configuration_of c.args.run.now.conf.now) c.args.sender from.point from.environment.now (process_of q)) c.in-Output.is c.requires.sends)
    (subst (λ q. Stands (protocol_of c.args.run.now.protocol.now) (configuration_of c.args.run.now.conf.now) c.args.receiver to.point to.environment.now (process_of q)) c.in-Input.is c.requires.receives)
    (ap (same_value (values.value_of to.environment.now (term_of c.in-Input.on))) (sym c.in_ok-channel-in-Input.ensures) ∙ sym c.is_value_of-same.ensures ∙ c.if-not-same.false)
    (ap (λ q. list_any is_large (values_of from.environment.now (terms_at (process_of q))) || list_any is_large (values_of to.environment.now (terms_at (process_of (Input c.in-Input.on c.in-Input.pattern c.in-Input.field-2))))) (sym c.in-Output.is)
    ∙ ap (λ q. list_any is_large (values_of from.environment.now (terms_at (process_of from.process.now))) || list_any is_large (values_of to.environment.now (terms_at (process_of q)))) (sym c.in-Input.is)
    ∙ sym c.some_large_at_either.ensures ∙ c.if-some_large_at_either.true)

pub returns-in_ok-thread-in-Input-clause-possible : goal.returns-in_ok-thread-in-Input-clause-possible
returns-in_ok-thread-in-Input-clause-possible c =
    let from = c.args.from.now in
    let to = c.args.to.now in
    subst (λ thread. IsPossible (protocol_of c.args.run.now.protocol.now) (configuration_of c.args.run.now.conf.now) (calculus.Pass c.args.sender c.args.receiver) (calculus.goes_on (advanced (configuration_of c.args.run.now.conf.now) c.args.sender (from.point + 1)) c.args.receiver thread))
    (sym (c.in_ok-thread-in-Input.ensures ∙ ap (λ v. received to.point to.environment.now (matched to.environment.now (pattern_of c.in-Input.pattern) v)) c.in_ok-message-in-Input.ensures))
    (pass-possible (protocol_of c.args.run.now.protocol.now) (configuration_of c.args.run.now.conf.now) c.args.sender c.args.receiver from.point to.point from.environment.now to.environment.now
    (term_of c.in-Output.channel) (term_of c.in-Output.message) (term_of c.in-Input.on) (pattern_of c.in-Input.pattern) (process_of c.in-Output.field-2.value) (process_of c.in-Input.field-2.value)
    (subst (λ q. Stands (protocol_of c.args.run.now.protocol.now) (configuration_of c.args.run.now.conf.now) c.args.sender from.point from.environment.now (process_of q)) c.in-Output.is c.requires.sends)
    (subst (λ q. Stands (protocol_of c.args.run.now.protocol.now) (configuration_of c.args.run.now.conf.now) c.args.receiver to.point to.environment.now (process_of q)) c.in-Input.is c.requires.receives)
    (ap (same_value (values.value_of to.environment.now (term_of c.in-Input.on))) (sym c.in_ok-channel-in-Input.ensures) ∙ sym c.is_value_of-same.ensures ∙ c.if-not-same.false)
    (ap (λ q. list_any is_large (values_of from.environment.now (terms_at (process_of q))) || list_any is_large (values_of to.environment.now (terms_at (process_of (Input c.in-Input.on c.in-Input.pattern c.in-Input.field-2))))) (sym c.in-Output.is)
    ∙ ap (λ q. list_any is_large (values_of from.environment.now (terms_at (process_of from.process.now))) || list_any is_large (values_of to.environment.now (terms_at (process_of q)))) (sym c.in-Input.is)
    ∙ sym c.some_large_at_either.ensures ∙ c.if-some_large_at_either.false))

pub overflow_add-result : goal.overflow_add-result
overflow_add-result c = grind (arith, common_steps, of_meeting, of_points)

pub received_shared-requires : goal.received_shared-requires
received_shared-requires c = grind (arith, common_steps, of_meeting, of_points)
