use Rattle.std.proofs.Common.{arith}
use Rattle.std.proofs.lemmas.Grind.{common_steps}
use Rattle.multiset_subsume.proofs.loose.is_free.Goals as goal

pub returns-then-taken : goal.returns-then-taken
returns-then-taken g c = grind (arith, common_steps)

pub returns : goal.returns
returns g c = grind (arith, common_steps)
