use Rattle.std.proofs.Common.{drop, subst}
use Rattle.spec_certificates.specs.Certificate.{CoverRowHolds, numbered_from}
use Rattle.spec_certificates.specs.Ruling.{IsRuledBy}
use Rattle.pi_tree.specs.Protocols.{protocol_of}
use Rattle.query_derive.specs.GoalRows.{OfQuery}
use Rattle.query_derive.proofs.Searching.{if_ok_map}
use Rattle.cert_stages.specs.Answers.{IsShownSo}
use Rattle.cert_stages.specs.Checked.{cert_in}
use Rattle.cert_checker.specs.Reached.{IsTranslatedTo, HasCovered}
use Rattle.cert_checker.specs.Rulings.{ruling_of}
use Rattle.cert_checker.proofs.Reaching.{covers_reached, covers_rule}
use Rattle.cert_checker.proofs.judging.judge.Goals as goal

pub returns-in-All-clause-ruled : goal.returns-in-All-clause-ruled
returns-in-All-clause-ruled g c = λ given shown.
    let P = protocol_of c.args.checker.now.protocol.now in
    let cert = cert_in (g.B.Bank.trees c.args.bank.now) c.args.checker.now in
    let number = c.args.checker.now.query in
    let numbers = c.args.checker.now.numbers.now in
    let all_shown = subst (λ s. IsShownSo (CoverRowHolds cert.clauses) (numbered_from 1 given) cert.rows 0 s) c.in-All.is shown in
    if_ok_map c.judge_pairs.result (λ ruling. OfQuery P number (λ q. HasCovered numbers P q cert (drop c.in-All.next cert.rows) → IsRuledBy numbers P q cert (ruling_of ruling)))
    (λ ruling. OfQuery P number (λ q. IsTranslatedTo numbers P q cert given → IsRuledBy numbers P q cert (ruling_of ruling)))
    (λ ruling ruled q asked reached. ruled q asked (covers_reached numbers P q cert given c.in-All.next all_shown reached)) c.judge_pairs.ensures.ruled

pub returns-in-Except-clause-ruled : goal.returns-in-Except-clause-ruled
returns-in-Except-clause-ruled g c = λ given shown q asked reached.
    let P = protocol_of c.args.checker.now.protocol.now in
    let cert = cert_in (g.B.Bank.trees c.args.bank.now) c.args.checker.now in
    let number = c.in-Except.number in
    let numbers = c.args.checker.now.numbers.now in
    covers_rule numbers P q cert given number (subst (λ s. IsShownSo (CoverRowHolds cert.clauses) (numbered_from 1 given) cert.rows 0 s) c.in-Except.is shown) reached
