use Rattle.std.proofs.Common.{◌∙◌, map, ap, rc_value}
use Rattle.pi_tree.specs.Protocols.{protocol_of}
use Rattle.cert_form.proofs.Facts.{line_written, lines_written}
use Rattle.cert_form.proofs.clause_text.put_clause_lines.Goals as goal

pub each-preserved : goal.each-preserved
each-preserved g c =
    line_written g.T.TermWriter.kept_of g.T.TermWriter.one (protocol_of c.args.protocol.now) rc_value c.args.clauses.now c.deref-clause-items.result.now c.each.clause-index c.clause-item.result c.deref.result.now
    (g.T.TermWriter.kept c.args.writer.now) (g.T.TermWriter.kept c.each.writer) (g.T.TermWriter.kept c.put_clause_with.new.writer) c.args.out.now.items c.each.out.items c.put.new.out.items c.put_clause_with.new.out.items c.put-in-each.new.out.items
    (ap (map rc_value) c.deref-clause-items.ensures.value ∙ c.clauses.view_is) c.each.invariant c.each-test.true c.clause-item.is c.deref.ensures c.in_ok-put.ensures c.in_ok-put_clause_with.ensures c.in_ok-put-2.ensures

pub returns : goal.returns
returns g c =
    lines_written g.T.TermWriter.kept_of g.T.TermWriter.one (protocol_of c.args.protocol.now) rc_value c.args.clauses.now c.deref-clause-items.result.now c.each.clause-index (g.T.TermWriter.kept c.args.writer.now) (g.T.TermWriter.kept c.each.writer) c.args.out.now.items c.each.out.items
    (ap (map rc_value) c.deref-clause-items.ensures.value ∙ c.clauses.view_is) c.each.invariant c.each-test.false
