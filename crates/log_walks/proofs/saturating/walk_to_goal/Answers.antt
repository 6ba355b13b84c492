use Rattle.std.proofs.Common.{subst, Option}
use Rattle.spec_saturation.specs.Log.{goal_key}
use Rattle.term_tree.proofs.BankLaws.{Grows_refl}
use Rattle.log_entries.specs.declared.log.Entry.{Entry}
use Rattle.log_walks.specs.Walked.{HasOffered}
use Rattle.log_walks.proofs.Stepping.{turn_end_step, gone_on, arrived_unasked}
use Rattle.log_walks.proofs.saturating.walk_to_goal.Goals as goal

pub returns-in-Some-clause-arrived : goal.returns-in-Some-clause-arrived
returns-in-Some-clause-arrived g c = subst (λ (due : Option Entry). HasOffered (g.B.Bank.trees c.args.bank.now) g.task c.offer_given.new.walk (goal_key g.task.given 0) due) c.in-Some.is c.in_ok-due.ensures

pub returns-in_err-due-clause-grows : goal.returns-in_err-due-clause-grows
returns-in_err-due-clause-grows g c = Grows_refl (g.B.Bank.trees c.args.bank.now)

pub returns-in-Some-clause-grows : goal.returns-in-Some-clause-grows
returns-in-Some-clause-grows g c = Grows_refl (g.B.Bank.trees c.args.bank.now)

pub walk_on-requires : goal.walk_on-requires
walk_on-requires g c = λ κs h. (h, turn_end_step (g.B.Bank.trees c.args.bank.now) g.task c.offer_given.new.walk 0 (gone_on (g.B.Bank.trees c.args.bank.now) g.task c.offer_given.new.walk (goal_key g.task.given 0) c.in_ok-due.field-0 c.in-None.is c.in_ok-due.ensures))

pub returns-in_ok-stop-in-None-clause-arrived : goal.returns-in_ok-stop-in-None-clause-arrived
returns-in_ok-stop-in-None-clause-arrived g c = arrived_unasked (g.B.Bank.trees c.walk_on.new.bank) g.task c.walk_on.new.walk c.in_ok-stop-in-None.stop c.requires.1.1.1.0 c.in_ok-stop-in-None.ensures.arrived
