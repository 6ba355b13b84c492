use Rattle.std.proofs.Common.{arith}
use Rattle.std.proofs.lemmas.Grind.{common_steps}
use Rattle.clause_form.proofs.memo.remembered.Goals as goal

pub returns-then-change-term : goal.returns-then-change-term
returns-then-change-term c = grind (arith, common_steps)
