use Rattle.std.proofs.Common.{◌∙◌, List, IfOk, refl, sym, subst}
use Rattle.spec_terms.specs.Term.{Term}
use Rattle.spec_certificates.specs.Certificate.{bad_arguments, numbers_for}
use Rattle.spec_certificates.specs.Ruling.{IsRuledBy}
use Rattle.pi_tree.specs.Protocols.{protocol_of}
use Rattle.query_derive.specs.GoalRows.{OfQuery}
use Rattle.query_derive.proofs.Searching.{if_ok_map}
use Rattle.cert_stages.specs.Lowering.{AreNormalIn}
use Rattle.cert_checker.specs.Claimed.{claimed_in}
use Rattle.cert_checker.specs.Reached.{HasShapes}
use Rattle.cert_checker.specs.Rulings.{ruling_of}
use Rattle.cert_checker.proofs.Reaching.{shapes_met, shapes_rule}
use Rattle.cert_checker.proofs.checking.check_claim.Goals as goal

pub check_said-requires-clause-normal : goal.check_said-requires-clause-normal
check_said-requires-clause-normal g c = subst (λ (all : List Term). AreNormalIn all c.args.claim.now.clauses.now) (sym c.misshapen.ensures.bank) (c.in_ok-number.ensures.normal c.in-None.is)

pub returns-in-Some-clause-ruled : goal.returns-in-Some-clause-ruled
returns-in-Some-clause-ruled g c = λ q asked.
    let P = protocol_of c.args.claim.now.protocol.now in
    let cert = claimed_in (g.B.Bank.trees c.args.bank.now) c.args.claim.now in
    shapes_rule cert (bad_arguments q) c.in_ok-number.field-0 (c.in_ok-number.ensures.told q asked) (numbers_for cert.clauses c.args.claim.now.said.now) P q c.in-Some.number c.in-Some.is refl

pub returns-in-None-clause-ruled : goal.returns-in-None-clause-ruled
returns-in-None-clause-ruled g c =
    let P = protocol_of c.args.claim.now.protocol.now in
    let number = c.args.claim.now.query in
    let said = c.args.claim.now.said.now in
    let cert = claimed_in (g.B.Bank.trees c.args.bank.now) c.args.claim.now in
    if_ok_map c.check_said.result (λ ruling. OfQuery P number (λ q. HasShapes q cert → IsRuledBy (numbers_for cert.clauses said) P q cert (ruling_of ruling))) (λ ruling. OfQuery P number (λ q. IsRuledBy (numbers_for cert.clauses said) P q cert (ruling_of ruling)))
    (λ ruling ruled q asked. ruled q asked (shapes_met cert (bad_arguments q) c.in_ok-number.field-0 (c.in_ok-number.ensures.told q asked) q c.in-None.is refl))
    (subst (λ (all : List Term). let it = claimed_in all c.args.claim.now in IfOk c.check_said.result (λ ruling. OfQuery P number (λ q. HasShapes q it → IsRuledBy (numbers_for it.clauses said) P q it (ruling_of ruling)))) c.misshapen.ensures.bank c.check_said.ensures.ruled)

pub returns-in-None-clause-bank : goal.returns-in-None-clause-bank
returns-in-None-clause-bank g c = c.check_said.ensures.bank ∙ c.misshapen.ensures.bank
