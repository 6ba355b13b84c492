use Rattle.clause_form.specs.Seen.{clause_at}
use Rattle.clause_saturate.specs.Common.{task_of}
use Rattle.clause_saturate.proofs.sharing.finish.Given as goal

abbrev pub ghost-walk_from_goal : goal.ghost-walk_from_goal
ghost-walk_from_goal g a = task_of g.shared (clause_at (g.B.Bank.trees a.bank.now) a.goal.now)
