use Rattle.std.proofs.Common.{◌≡◌, drop}
use Rattle.std.specs.List.{find}
use Rattle.pi_tree.specs.Protocols.{protocol_of}
use Rattle.pi_tree.specs.Values.{value_of}
use Rattle.pi_configurations.specs.Configurations.{configuration_of}
use Rattle.spec_attack_runs.specs.Walking.{offers}
use Rattle.attack_compiling.proofs.acting.first_offering.Given as goal

abbrev pub invariant-each : goal.invariant-each
invariant-each l = find (offers (protocol_of l.protocol) (configuration_of l.state.conf) (value_of l.channel) (value_of l.message)) (drop l.thread-index l.thread-items)
    ≡ find (offers (protocol_of l.protocol) (configuration_of l.state.conf) (value_of l.channel) (value_of l.message)) l.thread-items
