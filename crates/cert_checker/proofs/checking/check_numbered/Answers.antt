use Rattle.std.proofs.Common.{ℕ, Option, subst}
use Rattle.spec_certificates.specs.Ruling.{IsRuledBy}
use Rattle.pi_tree.specs.Protocols.{protocol_of}
use Rattle.query_derive.specs.GoalRows.{OfQuery}
use Rattle.query_derive.proofs.Searching.{if_ok_map}
use Rattle.cert_stages.specs.Answers.{numbered_at, AreRightSo}
use Rattle.cert_stages.specs.Checked.{cert_in}
use Rattle.cert_checker.specs.Reached.{HasShapes, HasRights}
use Rattle.cert_checker.specs.Rulings.{ruling_of}
use Rattle.cert_checker.proofs.Choosing.{normal_known}
use Rattle.cert_checker.proofs.Composing.{right_fails}
use Rattle.cert_checker.proofs.checking.check_numbered.Goals as goal

pub first_wrong-requires-clause-known : goal.first_wrong-requires-clause-known
first_wrong-requires-clause-known g c = normal_known (g.B.Bank.trees c.args.bank.now) c.args.checker.now.clauses.now c.requires.normal

pub check_normal-requires-clause-right : goal.check_normal-requires-clause-right
check_normal-requires-clause-right g c =
    let each = numbered_at (g.B.Bank.trees c.args.bank.now) c.args.checker.now.clauses.now in
    subst (λ (o : Option ℕ). AreRightSo c.args.checker.now.numbers.now each o) c.in-None.is c.first_wrong.ensures

pub returns-in-Some-clause-ruled : goal.returns-in-Some-clause-ruled
returns-in-Some-clause-ruled g c = λ q asked shaped.
    let all = g.B.Bank.trees c.args.bank.now in
    let numbers = c.args.checker.now.numbers.now in
    right_fails numbers (protocol_of c.args.checker.now.protocol.now) q (cert_in all c.args.checker.now) c.in-Some.number shaped
    (subst (λ (o : Option ℕ). AreRightSo numbers (numbered_at all c.args.checker.now.clauses.now) o) c.in-Some.is c.first_wrong.ensures)

pub returns-in-None-clause-ruled : goal.returns-in-None-clause-ruled
returns-in-None-clause-ruled g c =
    let P = protocol_of c.args.checker.now.protocol.now in
    let number = c.args.checker.now.query in
    let all = g.B.Bank.trees c.args.bank.now in
    let cert = cert_in all c.args.checker.now in
    let numbers = c.args.checker.now.numbers.now in
    let right = subst (λ (o : Option ℕ). AreRightSo numbers (numbered_at all c.args.checker.now.clauses.now) o) c.in-None.is c.first_wrong.ensures in
    if_ok_map c.check_normal.result (λ ruling. OfQuery P number (λ q. HasRights numbers q cert → IsRuledBy numbers P q cert (ruling_of ruling))) (λ ruling. OfQuery P number (λ q. HasShapes q cert → IsRuledBy numbers P q cert (ruling_of ruling)))
    (λ ruling ruled q asked shaped. ruled q asked record { shaped = shaped; right = right }) c.check_normal.ensures.ruled
