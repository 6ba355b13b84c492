use Rattle.std.proofs.Common.{arith}
use Rattle.std.proofs.lemmas.Grind.{common_steps}
use Rattle.multiset_subsume.proofs.loose.is_known.Goals as goal

pub returns-then-known-phase : goal.returns-then-known-phase
returns-then-known-phase g c = grind (arith, common_steps)

pub returns-else-known-phase : goal.returns-else-known-phase
returns-else-known-phase g c = grind (arith, common_steps)

pub returns-in_default : goal.returns-in_default
returns-in_default g c = grind (arith, common_steps)
