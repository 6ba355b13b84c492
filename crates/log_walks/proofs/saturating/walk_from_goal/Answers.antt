use Rattle.std.proofs.Common.{◌≡◌, true, rules, length, refl, subst, Option}
use Rattle.term_tree.proofs.BankLaws.{Grows_refl}
use Rattle.log_entries.specs.declared.log.Entry.{Entry}
use Rattle.log_walks.specs.Walked.{with_asked, IsWalked, HasOffered, behind_goal}
use Rattle.log_walks.proofs.Stepping.{gone_on, arrived_asked}
use Rattle.log_walks.proofs.saturating.walk_from_goal.Goals as goal

pub returns-in-Some-clause-ended : goal.returns-in-Some-clause-ended
returns-in-Some-clause-ended g c = subst (λ (due : Option Entry). HasOffered (g.B.Bank.trees c.args.bank.now) (with_asked g.task true) c.offer_goal.new.walk (behind_goal g.task.given (length c.args.walk.now.items.items)) due) c.in-Some.is c.in_ok-due.ensures

pub returns-in_err-due-clause-grows : goal.returns-in_err-due-clause-grows
returns-in_err-due-clause-grows g c = Grows_refl (g.B.Bank.trees c.args.bank.now)

pub returns-in-Some-clause-grows : goal.returns-in-Some-clause-grows
returns-in-Some-clause-grows g c = Grows_refl (g.B.Bank.trees c.args.bank.now)

pub walk_on-requires : goal.walk_on-requires
walk_on-requires g c = λ κs h. (
    let same : length c.args.walk.now.items.items ≡ c.len-turn.result = search rules in
    (h, subst (λ n. IsWalked (g.B.Bank.trees c.args.bank.now) (with_asked g.task true) c.offer_goal.new.walk (behind_goal g.task.given n)) same (gone_on (g.B.Bank.trees c.args.bank.now) (with_asked g.task true) c.offer_goal.new.walk (behind_goal g.task.given (length c.args.walk.now.items.items)) c.in_ok-due.field-0 c.in-None.is c.in_ok-due.ensures)))

pub returns-in_ok-stop-in-None-clause-ended : goal.returns-in_ok-stop-in-None-clause-ended
returns-in_ok-stop-in-None-clause-ended g c = arrived_asked (g.B.Bank.trees c.walk_on.new.bank) (with_asked g.task true) c.walk_on.new.walk c.in_ok-stop-in-None.stop refl c.in_ok-stop-in-None.ensures.arrived
