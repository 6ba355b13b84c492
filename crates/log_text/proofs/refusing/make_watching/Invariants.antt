use Rattle.pi_tree.specs.Protocols.{protocol_of}
use Rattle.pi_configurations.specs.Configurations.{IsConfigurationOf}
use Rattle.log_text.proofs.refusing.make_watching.Given as goal

abbrev pub invariant-each : goal.invariant-each
invariant-each l = IsConfigurationOf (protocol_of l.attempt.protocol.now) l.conf
