-- The report is all of the text.
use Rattle.std.proofs.Common.{◌∙◌, ◌++◌, ℕ, List, ap}
use Rattle.pi_tree.specs.Protocols.{protocol_of}
use Rattle.hx.specs.CertificateText.{report_text}
use Rattle.hx.proofs.certifying.report_of.Goals as goal

pub returns : goal.returns
returns c =
    let claim = c.args.claim.now in
    let text = report_text (protocol_of claim.protocol.now) claim.query claim.format claim.cert.now in
    c.in_ok-put_report.ensures ∙ ap (λ (s : List ℕ). s ++ text) c.new-text.ensures.items
