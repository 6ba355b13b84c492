use Rattle.std.proofs.Common.{arith}
use Rattle.std.proofs.lemmas.Grind.{common_steps}
use Rattle.clause_translate.proofs.whole.visit_main.Goals as goal

pub visit_process-requires-clause-visit : goal.visit_process-requires-clause-visit
visit_process-requires-clause-visit g c = grind (arith, common_steps)
