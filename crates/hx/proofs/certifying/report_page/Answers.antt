-- The certificate is that of the claim, with what is said of it.
use Rattle.std.proofs.Common.{◌≡◌, ◌∙◌, sym, arith}
use Rattle.pi_tree.specs.Protocols.{protocol_of}
use Rattle.hx.proofs.Choosing.{by_selection, as_said}
use Rattle.hx.proofs.certifying.report_page.Goals as goal

pub returns-then-is_empty : goal.returns-then-is_empty
returns-then-is_empty c =
    let claim = c.args.claim.now in
    record {
      cert = claim.cert.now;
      said = c.args.said.now;
      certifies = c.requires.certifies;
      is = by_selection (protocol_of claim.protocol.now) claim.query claim.format claim.cert.now c.in_ok-report_of.field-0.items c.args.said.now (sym c.is_empty.ensures ∙ c.if-is_empty.true) c.in_ok-report_of.ensures;
    }

pub returns : goal.returns
returns c =
    let claim = c.args.claim.now in
    let fits : c.format_for.result ≡ 2 = omega arith in
    record {
      cert = claim.cert.now;
      said = c.args.said.now;
      certifies = c.requires.certifies;
      is = as_said (protocol_of claim.protocol.now) claim.query claim.format claim.cert.now c.in_ok-chosen_report.field-0.items c.args.said.now (sym c.is_empty.ensures ∙ c.if-is_empty.false) (sym c.format_for.ensures.format ∙ fits)
          c.in_ok-chosen_report.ensures;
    }
