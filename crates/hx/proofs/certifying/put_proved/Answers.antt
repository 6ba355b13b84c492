-- The word, and the certificate behind it.
use Rattle.std.proofs.Common.{◌∙◌, ◌++◌, ℕ, List, [], ap, codes}
use Rattle.std.proofs.lemmas.Result.{on_ok_weaker}
use Rattle.pi_tree.specs.Protocols.{protocol_of}
use Rattle.cert_form.specs.Writing.{text_in}
use Rattle.hx.specs.AttackText.{line}
use Rattle.hx.proofs.Putting.{behind}
use Rattle.hx.proofs.certifying.put_proved.Goals as goal

pub returns : goal.returns
returns c =
    let claim = c.args.claim.now in
    let text : ℕ → List ℕ = λ format. text_in format (protocol_of claim.protocol.now) claim.cert.now [] in
    on_ok_weaker c.put_cert.result (λ put. behind c.args.out.now.items c.extend_from_slice.new.self.items c.put_cert.new.out.items (line (codes "proved")) (text c.format_for.result) c.in_ok-extend_from_slice.ensures.items put
    ∙ ap (λ format. c.args.out.now.items ++ (line (codes "proved") ++ text format)) c.format_for.ensures.format) c.put_cert.ensures.text
