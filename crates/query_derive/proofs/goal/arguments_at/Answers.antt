use Rattle.pi_tree.specs.Protocols.{protocol_of}
use Rattle.query_derive.proofs.FewArguments.{told_exactly}
use Rattle.query_derive.proofs.goal.arguments_at.Goals as goal

pub returns : goal.returns
returns c = told_exactly (protocol_of c.args.protocol.now) c.args.point c.name_args.result c.requires.limits c.name_args.ensures
