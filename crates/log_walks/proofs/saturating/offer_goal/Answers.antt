use Rattle.std.proofs.Common.{◌≡◌, Some, length, refl, subst, arith}
use Rattle.spec_calculus.specs.Points.{numbered}
use Rattle.spec_saturation.specs.Log.{goal_key}
use Rattle.clause_form.specs.Seen.{clause_at}
use Rattle.log_walks.proofs.Fitting.{walked_fit, walked_listed, walked_within}
use Rattle.log_walks.proofs.Stepping.{goal_step, goal_made}
use Rattle.log_walks.proofs.saturating.offer_goal.Goals as goal

pub offer-requires-clause-entries : goal.offer-requires-clause-entries
offer-requires-clause-entries g c = walked_fit (g.B.Bank.trees c.args.bank.now) g.task c.args.walk.now (goal_key g.task.given (length c.args.walk.now.items.items)) c.requires.1.1.1.1.1

pub offer-requires-clause-listed : goal.offer-requires-clause-listed
offer-requires-clause-listed g c = walked_listed (g.B.Bank.trees c.args.bank.now) g.task c.args.walk.now (goal_key g.task.given (length c.args.walk.now.items.items)) c.requires.1.1.1.1.1

pub offer-requires-clause-clause : goal.offer-requires-clause-clause
offer-requires-clause-clause g c = c.requires.1.1.1.0

pub offer-requires-clause-within : goal.offer-requires-clause-within
offer-requires-clause-within g c = walked_within (g.B.Bank.trees c.args.bank.now) g.task c.args.walk.now (goal_key g.task.given (length c.args.walk.now.items.items)) c.requires.1.1.1.1.1

pub returns : goal.returns
returns g c =
    let all = g.B.Bank.trees c.args.bank.now in
    let old = c.args.walk.now in
    let new = c.offer.new.walk in
    let turn = length old.items.items in
    let goal_clause = clause_at all c.args.goal.now in
    let is : numbered g.task.given (length g.task.given) ≡ Some goal_clause = subst (λ n. numbered g.task.given n ≡ Some goal_clause) c.requires.1.0 c.requires.1.1.0 in
    goal_step all g.task old new turn goal_clause c.in_ok-due.due c.requires.1.1.1.1.1 c.requires.1.1.1.1.0 (omega arith) is c.in_ok-due.ensures.kept c.in_ok-due.ensures.listed
    (goal_made all g.task.given old new turn c.args.number goal_clause c.in_ok-due.due c.in_ok-due.due c.requires.1.0 refl c.in_ok-due.ensures.made)
