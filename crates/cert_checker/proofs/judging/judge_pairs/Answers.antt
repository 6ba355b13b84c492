use Rattle.std.proofs.Common.{List, IfOk, drop, refl, sym, subst}
use Rattle.spec_terms.specs.Term.{Term}
use Rattle.pi_tree.specs.Protocols.{protocol_of}
use Rattle.query_derive.specs.GoalRows.{OfQuery}
use Rattle.query_derive.proofs.Searching.{if_ok_map}
use Rattle.spec_certificates.specs.Ruling.{IsRuledBy}
use Rattle.clause_form.specs.Fit.{AreFit}
use Rattle.cert_stages.specs.Checked.{cert_in}
use Rattle.cert_checker.specs.Reached.{HasCovered, HasClosed}
use Rattle.cert_checker.specs.Rulings.{ruling_of}
use Rattle.cert_checker.proofs.Reaching.{pairs_reached, pairs_rule}
use Rattle.cert_checker.proofs.judging.judge_pairs.Goals as goal

pub judge_goals-requires-clause-fit : goal.judge_goals-requires-clause-fit
judge_goals-requires-clause-fit g c = subst (λ (all : List Term). AreFit all c.args.checker.now.clauses.now) (sym c.are_closed.ensures.bank) c.requires.fit

pub returns-in-All-clause-ruled : goal.returns-in-All-clause-ruled
returns-in-All-clause-ruled g c =
    let P = protocol_of c.args.checker.now.protocol.now in
    let all = g.B.Bank.trees c.args.bank.now in
    let cert = cert_in all c.args.checker.now in
    let numbers = c.args.checker.now.numbers.now in
    if_ok_map c.judge_goals.result (λ ruling. OfQuery P c.args.checker.now.query (λ q. HasClosed numbers P q cert (drop c.in-All.next cert.rows) → IsRuledBy numbers P q cert (ruling_of ruling)))
    (λ ruling. OfQuery P c.args.checker.now.query (λ q. HasCovered numbers P q cert (drop c.args.row cert.rows) → IsRuledBy numbers P q cert (ruling_of ruling)))
    (λ ruling ruled q asked reached. ruled q asked (pairs_reached numbers P q cert all c.args.checker.now.clauses.now refl c.args.row c.in-All.next _ c.in-All.is c.in_ok-next.ensures.closed reached))
    (subst (λ (ts : List Term). let it = cert_in ts c.args.checker.now in IfOk c.judge_goals.result (λ ruling. OfQuery P c.args.checker.now.query (λ q. HasClosed numbers P q it (drop c.in-All.next it.rows) → IsRuledBy numbers P q it (ruling_of ruling))))
    c.are_closed.ensures.bank c.judge_goals.ensures)

pub returns-in-Except-clause-ruled : goal.returns-in-Except-clause-ruled
returns-in-Except-clause-ruled g c = λ q asked reached.
    let P = protocol_of c.args.checker.now.protocol.now in
    let all = g.B.Bank.trees c.args.bank.now in
    let cert = cert_in all c.args.checker.now in
    let numbers = c.args.checker.now.numbers.now in
    pairs_rule numbers P q cert all c.args.checker.now.clauses.now refl c.args.row c.in-Except.pair _ c.in-Except.is c.in_ok-next.ensures.closed reached

pub returns-in-All-clause-bank : goal.returns-in-All-clause-bank
returns-in-All-clause-bank g c = c.are_closed.ensures.bank
