use Rattle.std.proofs.Common.{Bool, ◌&&◌, sym, ap, ◌∙◌}
use Rattle.spec_calculus.specs.Values.{same_value}
use Rattle.spec_calculus.specs.Values as calculus
use Rattle.pi_tree.specs.Processes.{process_of}
use Rattle.pi_tree.specs.Protocols.{protocol_of}
use Rattle.pi_tree.specs.Terms.{term_of}
use Rattle.pi_tree.specs.Values.{value_of}
use Rattle.pi_configurations.specs.Configurations.{configuration_of}
use Rattle.attack_compiling.specs.Standing.{stand_of}
use Rattle.attack_compiling.proofs.Stands.{offered}
use Rattle.attack_compiling.proofs.acting.offers.Goals as goal

pub returns-then-is_value_of : goal.returns-then-is_value_of
returns-then-is_value_of c =
    let at = c.in-Some.stand in
    let second : Bool = same_value (calculus.value_of at.environment.now (term_of c.in-Output.sent)) (value_of c.args.message.now) in
    c.is_value_of-then-is_value_of.ensures
    ∙ (ap (λ (b : Bool). b && second) (sym c.if-is_value_of.true ∙ c.is_value_of.ensures)
    ∙ sym (offered (protocol_of c.args.protocol.now) (configuration_of c.args.conf.now) c.args.thread (stand_of at) (term_of c.in-Output.on) (term_of c.in-Output.sent) _ (value_of c.args.channel.now) (value_of c.args.message.now) c.in-Some.ensures (ap process_of c.in-Output.is)))

pub returns-else-is_value_of : goal.returns-else-is_value_of
returns-else-is_value_of c =
    let at = c.in-Some.stand in
    let second : Bool = same_value (calculus.value_of at.environment.now (term_of c.in-Output.sent)) (value_of c.args.message.now) in
    c.if-is_value_of.false
    ∙ (ap (λ (b : Bool). b && second) (sym c.if-is_value_of.false ∙ c.is_value_of.ensures)
    ∙ sym (offered (protocol_of c.args.protocol.now) (configuration_of c.args.conf.now) c.args.thread (stand_of at) (term_of c.in-Output.on) (term_of c.in-Output.sent) _ (value_of c.args.channel.now) (value_of c.args.message.now) c.in-Some.ensures (ap process_of c.in-Output.is)))
