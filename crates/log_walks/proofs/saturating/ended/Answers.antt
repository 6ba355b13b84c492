use Rattle.std.proofs.Common.{Option, subst}
use Rattle.log_walks.specs.declared.stops.Stop.{Stop}
use Rattle.log_walks.specs.declared.stops.Stop.TheVariants.{Spent, Large}
use Rattle.log_walks.specs.Walked.{HasEnded, HasStopped}
use Rattle.log_walks.proofs.saturating.ended.Goals as goal

pub returns-in-None : goal.returns-in-None
returns-in-None c = λ all task h. subst (λ (stop : Option Stop). HasEnded all task c.args.walk stop) c.in-None.is h

pub returns-in-Some-Spent : goal.returns-in-Some-Spent
returns-in-Some-Spent c = λ all task h. let spent : HasStopped all task c.args.walk.items.items (Spent c.in-Some-Spent.due) = subst (λ (stop : Stop). HasStopped all task c.args.walk.items.items stop) c.in-Some-Spent.field-0-is (subst (λ (stop : Option Stop). HasEnded all task c.args.walk stop) c.in-Some-Spent.is h) in spent.spent

pub returns : goal.returns
returns c = λ all task h. let large : HasStopped all task c.args.walk.items.items (Large c.in-Some-Large.solved c.in-Some-Large.unsolved) = subst (λ (stop : Stop). HasStopped all task c.args.walk.items.items stop) c.in-Some-Large.field-0-is (subst (λ (stop : Option Stop). HasEnded all task c.args.walk stop) c.in-Some-Large.is h) in large.large
