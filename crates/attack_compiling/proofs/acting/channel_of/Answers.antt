use Rattle.std.proofs.Common.{Some, sym, ap, ◌∙◌, arith}
use Rattle.std.proofs.lemmas.Grind.{common_steps}
use Rattle.spec_calculus.specs.Refusals.{at_input}
use Rattle.pi_tree.specs.Processes.{process_of}
use Rattle.pi_tree.specs.Protocols.{protocol_of}
use Rattle.pi_configurations.specs.Configurations.{configuration_of}
use Rattle.attack_compiling.specs.Standing.{stand_of}
use Rattle.attack_compiling.proofs.Stands.{acting_with}
use Rattle.attack_compiling.proofs.acting.channel_of.Goals as goal

pub returns-in_ok-value-in-Input : goal.returns-in_ok-value-in-Input
returns-in_ok-value-in-Input c =
    ap Some c.in_ok-value-in-Input.ensures
    ∙ sym (acting_with (protocol_of c.args.protocol.now) (configuration_of c.args.conf.now) c.args.thread at_input (stand_of c.in-Some.stand) _ c.in-Some.ensures (ap process_of c.in-Input.is))

pub returns-in_default : goal.returns-in_default
returns-in_default c = grind (arith, common_steps)
