use Rattle.std.proofs.Common.{subst}
use Rattle.log_walks.specs.declared.stops.Stop.{Stop}
use Rattle.log_walks.specs.Walked.{HasStopped}
use Rattle.clause_saturate.specs.Common.{task_of}
use Rattle.clause_saturate.proofs.Commons.{spent_common, large_common}
use Rattle.clause_saturate.proofs.sharing.ended_early.Goals as goal

pub returns-in-Spent : goal.returns-in-Spent
returns-in-Spent c = λ all shared goal h. spent_common all shared goal c.args.log c.in-Spent.due (subst (λ (stop : Stop). HasStopped all (task_of shared goal) c.args.log stop) c.in-Spent.is h)

pub returns-in-Large : goal.returns-in-Large
returns-in-Large c = λ all shared goal h. large_common all shared goal c.args.log c.in-Large.solved c.in-Large.unsolved (subst (λ (stop : Stop). HasStopped all (task_of shared goal) c.args.log stop) c.in-Large.is h)
