use Rattle.std.proofs.Common.{arith}
use Rattle.std.proofs.lemmas.Grind.{common_steps}
use Rattle.clause_form.proofs.copies.read_out.Goals as goal

pub returns : goal.returns
returns g c = grind (arith, common_steps)

pub read_fact-requires : goal.read_fact-requires
read_fact-requires g c = grind (arith, common_steps)
