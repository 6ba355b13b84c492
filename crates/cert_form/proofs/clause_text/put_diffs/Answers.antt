use Rattle.std.proofs.Common.{◌∙◌}
use Rattle.pi_tree.specs.Protocols.{protocol_of}
use Rattle.cert_form.proofs.Facts.{diff_written, diffs_written}
use Rattle.cert_form.proofs.clause_text.put_diffs.Goals as goal

pub each-preserved : goal.each-preserved
each-preserved g c =
    diff_written g.T.TermWriter.kept_of g.T.TermWriter.one (protocol_of c.args.protocol.now) c.args.behind c.args.diffs.now c.deref-diff-items.result.now c.each.place c.diff-item.result (g.T.TermWriter.kept c.args.writer.now) (g.T.TermWriter.kept c.each.writer) (g.T.TermWriter.kept c.put_diff.new.writer)
    c.args.out.now.items c.each.out.items c.put_gap_behind.new.out.items c.put_diff.new.out.items
    (c.deref-diff-items.ensures.value ∙ c.diffs.view_is) c.each.invariant c.each-test.true c.diff-item.is c.in_ok-put_gap_behind.ensures c.in_ok-put_diff.ensures

pub returns : goal.returns
returns g c =
    diffs_written g.T.TermWriter.kept_of g.T.TermWriter.one (protocol_of c.args.protocol.now) c.args.behind c.args.diffs.now c.deref-diff-items.result.now c.each.place (g.T.TermWriter.kept c.args.writer.now) (g.T.TermWriter.kept c.each.writer) c.args.out.now.items c.each.out.items
    (c.deref-diff-items.ensures.value ∙ c.diffs.view_is) c.each.invariant c.each-test.false
