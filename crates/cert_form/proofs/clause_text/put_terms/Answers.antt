use Rattle.std.proofs.Common.{ap, ◌∙◌, map}
use Rattle.pi_tree.specs.Protocols.{protocol_of}
use Rattle.clause_form.specs.Plain.{term_of}
use Rattle.cert_form.proofs.Facts.{term_written, terms_written}
use Rattle.cert_form.proofs.clause_text.put_terms.Goals as goal

pub each-preserved : goal.each-preserved
each-preserved g c =
    term_written g.T.TermWriter.kept_of g.T.TermWriter.one (protocol_of c.args.protocol.now) c.args.terms.now c.deref-term-items.result.now c.each.place c.term-item.result (g.T.TermWriter.kept c.args.writer.now) (g.T.TermWriter.kept c.each.writer) (g.T.TermWriter.kept c.put_term.new.self)
    c.args.out.now.items c.each.out.items c.put_comma.new.out.items c.put_term.new.out.items
    (ap (map term_of) c.deref-term-items.ensures.value ∙ c.terms.view_is) c.each.invariant c.each-test.true c.term-item.is c.in_ok-put_comma.ensures c.in_ok-put_term.ensures

pub returns : goal.returns
returns g c =
    terms_written g.T.TermWriter.kept_of g.T.TermWriter.one (protocol_of c.args.protocol.now) c.args.terms.now c.deref-term-items.result.now c.each.place (g.T.TermWriter.kept c.args.writer.now) (g.T.TermWriter.kept c.each.writer) c.args.out.now.items c.each.out.items
    (ap (map term_of) c.deref-term-items.ensures.value ∙ c.terms.view_is) c.each.invariant c.each-test.false
