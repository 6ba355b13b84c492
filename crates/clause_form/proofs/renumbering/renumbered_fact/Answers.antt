use Rattle.std.proofs.Common.{arith}
use Rattle.std.proofs.lemmas.Grind.{common_steps}
use Rattle.clause_form.proofs.renumbering.renumbered_fact.Goals as goal

pub returns-in-Att-clause-names : goal.returns-in-Att-clause-names
returns-in-Att-clause-names g c = grind (arith, common_steps)
