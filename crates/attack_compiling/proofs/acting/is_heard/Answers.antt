use Rattle.std.proofs.Common.{Option, false, sym, ap, ◌∙◌}
use Rattle.std.specs.Option.{option_map_or}
use Rattle.spec_calculus.specs.Refusals.{at_output}
use Rattle.spec_calculus.specs.Runs.{knows}
use Rattle.spec_calculus.specs.Values.{Value}
use Rattle.pi_tree.specs.Processes.{process_of}
use Rattle.pi_tree.specs.Protocols.{protocol_of}
use Rattle.pi_configurations.specs.Configurations.{configuration_of}
use Rattle.attack_compiling.specs.Standing.{stand_of}
use Rattle.attack_compiling.proofs.Stands.{acting_with}
use Rattle.attack_compiling.proofs.acting.is_heard.Goals as goal

pub returns-in-Output : goal.returns-in-Output
returns-in-Output c =
    let conf = configuration_of c.args.conf.now in
    c.knows.ensures
    ∙ sym (ap (λ (o : Option Value). option_map_or (knows conf) o false) (acting_with (protocol_of c.args.protocol.now) conf c.args.thread at_output (stand_of c.in-Some.stand) _ c.in-Some.ensures (ap process_of c.in-Output.is)))
