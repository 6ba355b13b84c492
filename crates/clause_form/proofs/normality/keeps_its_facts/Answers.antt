use Rattle.std.proofs.Common.{arith}
use Rattle.std.proofs.lemmas.Grind.{common_steps}
use Rattle.clause_form.proofs.normality.keeps_its_facts.Goals as goal

pub returns-then-has_no_repeats : goal.returns-then-has_no_repeats
returns-then-has_no_repeats g c = grind (arith, common_steps)

pub returns-else-has_no_repeats : goal.returns-else-has_no_repeats
returns-else-has_no_repeats g c = grind (arith, common_steps)
