use Rattle.std.proofs.Common.{◌≡◌, ◌∙◌, ℕ, List, IfOk, subst, rules}
use Rattle.spec_certificates.specs.Ruling.{IsRuledBy}
use Rattle.pi_tree.specs.Protocols.{protocol_of}
use Rattle.query_derive.specs.GoalRows.{OfQuery}
use Rattle.cert_checker.specs.Claimed.{claimed_in}
use Rattle.cert_checker.specs.Reached.{HasShapes}
use Rattle.cert_checker.specs.Rulings.{ruling_of}
use Rattle.cert_checker.proofs.Choosing.{numbers_as_many}
use Rattle.cert_checker.proofs.checking.check_said.Goals as goal

pub check_numbered-requires-clause-as_many : goal.check_numbered-requires-clause-as_many
check_numbered-requires-clause-as_many g c =
    let same : c.deref.result.now ≡ c.in_ok-numbers.numbers.items = search rules in
    numbers_as_many (g.B.Bank.trees c.args.bank.now) c.args.claim.now.clauses.now c.args.claim.now.said.now c.deref.result.now (same ∙ c.in_ok-numbers.ensures)

pub returns-clause-ruled : goal.returns-clause-ruled
returns-clause-ruled g c =
    let P = protocol_of c.args.claim.now.protocol.now in
    let cert = claimed_in (g.B.Bank.trees c.args.bank.now) c.args.claim.now in
    let same : c.deref.result.now ≡ c.in_ok-numbers.numbers.items = search rules in
    subst (λ (numbers : List ℕ). IfOk c.check_numbered.result (λ ruling. OfQuery P c.args.claim.now.query (λ q. HasShapes q cert → IsRuledBy numbers P q cert (ruling_of ruling))))
    (same ∙ c.in_ok-numbers.ensures) c.check_numbered.ensures.ruled
