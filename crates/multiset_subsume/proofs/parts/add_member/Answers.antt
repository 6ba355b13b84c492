use Rattle.std.proofs.Common.{arith}
use Rattle.std.proofs.lemmas.Grind.{common_steps}
use Rattle.multiset_subsume.proofs.parts.add_member.Goals as goal

pub returns : goal.returns
returns c = grind (arith, common_steps)
