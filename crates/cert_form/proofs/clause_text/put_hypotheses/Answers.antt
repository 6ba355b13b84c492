use Rattle.std.proofs.Common.{ap, ◌∙◌, map}
use Rattle.pi_tree.specs.Protocols.{protocol_of}
use Rattle.clause_form.specs.PlainFacts.{plain_fact_of}
use Rattle.cert_form.proofs.Facts.{hypothesis_written, hypotheses_written}
use Rattle.cert_form.proofs.clause_text.put_hypotheses.Goals as goal

pub each-preserved : goal.each-preserved
each-preserved g c =
    hypothesis_written g.T.TermWriter.kept_of g.T.TermWriter.one (protocol_of c.args.protocol.now) c.args.hyps.now c.deref-hyp-items.result.now c.each.place c.hyp-item.result (g.T.TermWriter.kept c.args.writer.now) (g.T.TermWriter.kept c.each.writer) (g.T.TermWriter.kept c.put_fact.new.writer)
    c.args.out.now.items c.each.out.items c.put_gap.new.out.items c.put_fact.new.out.items
    (ap (map plain_fact_of) c.deref-hyp-items.ensures.value ∙ c.hyps.view_is) c.each.invariant c.each-test.true c.hyp-item.is c.in_ok-put_gap.ensures c.in_ok-put_fact.ensures

pub returns : goal.returns
returns g c =
    hypotheses_written g.T.TermWriter.kept_of g.T.TermWriter.one (protocol_of c.args.protocol.now) c.args.hyps.now c.deref-hyp-items.result.now c.each.place (g.T.TermWriter.kept c.args.writer.now) (g.T.TermWriter.kept c.each.writer) c.args.out.now.items c.each.out.items
    (ap (map plain_fact_of) c.deref-hyp-items.ensures.value ∙ c.hyps.view_is) c.each.invariant c.each-test.false
