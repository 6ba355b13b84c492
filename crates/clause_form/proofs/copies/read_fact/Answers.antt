use Rattle.std.proofs.Common.{arith}
use Rattle.std.proofs.lemmas.Grind.{common_steps}
use Rattle.clause_form.proofs.copies.read_fact.Goals as goal

pub returns-in_ok-arguments-in-Mev : goal.returns-in_ok-arguments-in-Mev
returns-in_ok-arguments-in-Mev g c = grind (arith, common_steps)

pub returns-in_ok-arguments-in-Tab : goal.returns-in_ok-arguments-in-Tab
returns-in_ok-arguments-in-Tab g c = grind (arith, common_steps)

pub returns-in_ok-arguments-in-Ev : goal.returns-in_ok-arguments-in-Ev
returns-in_ok-arguments-in-Ev g c = grind (arith, common_steps)

pub returns-in_ok-message-in-Mess : goal.returns-in_ok-message-in-Mess
returns-in_ok-message-in-Mess g c = grind (arith, common_steps)

pub returns-in_ok-read_term-in-Att : goal.returns-in_ok-read_term-in-Att
returns-in_ok-read_term-in-Att g c = grind (arith, common_steps)

pub returns-in_ok-arguments-in-Bad : goal.returns-in_ok-arguments-in-Bad
returns-in_ok-arguments-in-Bad g c = grind (arith, common_steps)
