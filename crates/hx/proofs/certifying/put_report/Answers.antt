-- What is told of each query stands behind that of those before.
use Rattle.std.proofs.Common.{◌≡◌, ◌∙◌, ◌++◌, ◌+◌, ℕ, suc, List, length, ap, sym, add-one, arith}
use Rattle.std.proofs.lemmas.List.{append-nil}
use Rattle.spec_calculus.specs.Syntax.{Protocol}
use Rattle.spec_certificates.specs.Certificate.{Certificate}
use Rattle.pi_tree.specs.Protocols.{protocol_of}
use Rattle.hx.specs.CertificateText.{told_text, told_lines}
use Rattle.hx.proofs.Putting.{behind}
use Rattle.hx.proofs.certifying.put_report.Goals as goal

one_more : (P : Protocol) (query format : ℕ) (cert : Certificate) (n : ℕ) (start was now : List ℕ) → was ≡ start ++ told_lines P query format cert n → now ≡ was ++ told_text P query format cert (n + 1)
    → now ≡ start ++ told_lines P query format cert (n + 1)
one_more P query format cert n start was now before more =
    let next : now ≡ was ++ told_text P query format cert (suc n) = more ∙ ap (λ (k : ℕ). was ++ told_text P query format cert k) (add-one n) in
    behind start was now (told_lines P query format cert n) (told_text P query format cert (suc n)) before next ∙ ap (λ (k : ℕ). start ++ told_lines P query format cert k) (sym (add-one n))

pub each-init : goal.each-init
each-init c = sym (append-nil c.args.out.now.items)

pub each-preserved : goal.each-preserved
each-preserved c =
    let claim = c.args.claim.now in
    one_more (protocol_of claim.protocol.now) claim.query claim.format claim.cert.now c.each.index c.args.out.now.items c.each.out.items c.put_query.new.out.items c.each.invariant c.in_ok-put_query.ensures

pub returns : goal.returns
returns c =
    let claim = c.args.claim.now in
    let all : c.each.index ≡ length (protocol_of claim.protocol.now).queries = omega arith in
    c.each.invariant ∙ ap (λ (n : ℕ). c.args.out.now.items ++ told_lines (protocol_of claim.protocol.now) claim.query claim.format claim.cert.now n) all
