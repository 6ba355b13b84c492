use Rattle.std.proofs.Common.{arith}
use Rattle.std.proofs.lemmas.Grind.{common_steps}
use Rattle.term_values.proofs.Items.{by_number}
use Rattle.term_values.proofs.rules.rules_of.Goals as goal

pub returns-in-Some-get : goal.returns-in-Some-get
returns-in-Some-get c = grind (arith, common_steps, by_number)

pub returns-in-None-get : goal.returns-in-None-get
returns-in-None-get c = grind (arith, common_steps, by_number)
