use Rattle.std.proofs.Common.{arith}
use Rattle.std.proofs.lemmas.Grind.{common_steps}
use Rattle.clause_form.proofs.normality.is_first_variable_known.Goals as goal

pub returns-in-App : goal.returns-in-App
returns-in-App g c = grind (arith, common_steps)

pub returns-in-Var : goal.returns-in-Var
returns-in-Var g c = grind (arith, common_steps)

pub returns-in_default : goal.returns-in_default
returns-in_default g c = grind (arith, common_steps)
