use Rattle.pi_tree.specs.Protocols.{protocol_of}
use Rattle.pi_configurations.proofs.Points.{start-of}
use Rattle.pi_configurations.proofs.configurations.start.Goals as goal

pub returns-clause-of_protocol : goal.returns-clause-of_protocol
returns-clause-of_protocol c = start-of (protocol_of c.args.protocol.now) c.in_ok-conf.conf c.in_ok-conf.ensures.start
