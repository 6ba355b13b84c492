use Rattle.std.proofs.Common.{arith}
use Rattle.std.proofs.lemmas.Grind.{common_steps}
use Rattle.clause_form.proofs.normality.keeps_its_variables.Goals as goal

pub returns-then-is_own_general : goal.returns-then-is_own_general
returns-then-is_own_general g c = grind (arith, common_steps)

pub returns-else-is_own_general : goal.returns-else-is_own_general
returns-else-is_own_general g c = grind (arith, common_steps)
