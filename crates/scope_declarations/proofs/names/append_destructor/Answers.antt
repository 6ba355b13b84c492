-- The list is seen with one item more.
use Rattle.std.proofs.Common.{arith}
use Rattle.std.proofs.lemmas.Grind.{common_steps}
use Rattle.scope_declarations.proofs.names.append_destructor.Goals as goal

pub returns : goal.returns
returns c = grind (arith, common_steps)
