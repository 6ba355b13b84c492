use Rattle.std.proofs.Common.{drop, subst}
use Rattle.spec_certificates.specs.Certificate.{GoalHolds}
use Rattle.spec_certificates.specs.Ruling.{resting_bad}
use Rattle.pi_tree.specs.Protocols.{protocol_of}
use Rattle.cert_checker.specs.Rulings.{ruling_of}
use Rattle.cert_stages.specs.Checked.{cert_in}
use Rattle.cert_stages.specs.Answers.{numbered_at, rests_by, IsShownSo}
use Rattle.cert_checker.proofs.Composing.{goal_fails, all_met}
use Rattle.cert_checker.proofs.judging.judge_goals.Goals as goal

pub returns-in-All : goal.returns-in-All
returns-in-All g c = λ q asked reached.
    let P = protocol_of c.args.checker.now.protocol.now in
    let all = g.B.Bank.trees c.args.bank.now in
    let cert = cert_in all c.args.checker.now in
    let numbers = c.args.checker.now.numbers.now in
    let each = numbered_at all c.args.checker.now.clauses.now in
    let stage = subst (λ s. IsShownSo (GoalHolds P q) (resting_bad (rests_by numbers) each) cert.goals 0 s) c.in-All.is (c.in_ok-goal.ensures q asked) in
    all_met numbers P q cert (drop c.args.row cert.rows) (drop c.in-All.goal cert.goals) (ruling_of c.left_over.result) reached stage (c.left_over.ensures all)

pub returns-in-Except : goal.returns-in-Except
returns-in-Except g c = λ q asked reached.
    let P = protocol_of c.args.checker.now.protocol.now in
    let all = g.B.Bank.trees c.args.bank.now in
    let cert = cert_in all c.args.checker.now in
    let numbers = c.args.checker.now.numbers.now in
    let each = numbered_at all c.args.checker.now.clauses.now in
    let stage = subst (λ s. IsShownSo (GoalHolds P q) (resting_bad (rests_by numbers) each) cert.goals 0 s) c.in-Except.is (c.in_ok-goal.ensures q asked) in
    goal_fails numbers P q cert (drop c.args.row cert.rows) c.in-Except.number reached stage
