use Rattle.std.proofs.Common.{arith}
use Rattle.std.proofs.lemmas.Grind.{common_steps}
use Rattle.scope_declarations.proofs.names.Names.into_protocol.Goals as goal

pub returns : goal.returns
returns c = grind (arith, common_steps)
