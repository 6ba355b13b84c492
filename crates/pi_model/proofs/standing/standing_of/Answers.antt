use Rattle.pi_tree.specs.Protocols.{protocol_of}
use Rattle.pi_configurations.proofs.Points.{point-within}
use Rattle.pi_model.proofs.standing.standing_of.Goals as goal

pub returns-in-At-clause-within : goal.returns-in-At-clause-within
returns-in-At-clause-within c = point-within (protocol_of c.args.run.now.protocol.now) _ _ c.node.ensures
