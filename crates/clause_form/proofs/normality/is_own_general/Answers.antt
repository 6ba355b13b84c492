use Rattle.std.proofs.Common.{arith}
use Rattle.std.proofs.lemmas.Grind.{common_steps}
use Rattle.clause_form.proofs.normality.is_own_general.Goals as goal

pub returns-else-not-is_general : goal.returns-else-not-is_general
returns-else-not-is_general g c = grind (arith, common_steps)

pub returns-then-not-is_general : goal.returns-then-not-is_general
returns-then-not-is_general g c = grind (arith, common_steps)
