use Rattle.std.proofs.Common.{map}
use Rattle.clause_form.specs.Seen.{clause_at}
use Rattle.clause_saturate.specs.Common.{task_of}
use Rattle.clause_saturate.proofs.Commons.{some_goal}
use Rattle.clause_saturate.proofs.sharing.begin.Given as goal

abbrev pub ghost-walk_to_goal : goal.ghost-walk_to_goal
ghost-walk_to_goal g a = task_of (record { clauses = map (clause_at (g.B.Bank.trees a.bank.now)) a.given.now; budget = a.walk.now.budget }) some_goal
