use Rattle.std.proofs.Common.{arith}
use Rattle.std.proofs.lemmas.Grind.{common_steps}
use Rattle.clause_resolve.proofs.resolving.without_fact.Goals as goal

pub remove-requires : goal.remove-requires
remove-requires c = grind (arith, common_steps)
