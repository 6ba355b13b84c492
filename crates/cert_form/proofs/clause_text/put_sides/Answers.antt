use Rattle.std.proofs.lemmas.Result.{on_ok_weaker}
use Rattle.pi_tree.specs.Protocols.{protocol_of}
use Rattle.cert_form.proofs.Facts.{sides_written}
use Rattle.cert_form.proofs.clause_text.put_sides.Goals as goal

pub returns : goal.returns
returns g c = on_ok_weaker c.put-3.result (λ closing.
    sides_written g.T.TermWriter.kept_of g.T.TermWriter.one (protocol_of c.args.protocol.now) c.args.left.now c.args.right.now (g.T.TermWriter.kept c.args.writer.now) (g.T.TermWriter.kept c.put_terms.new.writer) (g.T.TermWriter.kept c.put_terms-2.new.writer)
    c.args.out.now.items c.put.new.out.items c.put_terms.new.out.items c.put-2.new.out.items c.put_terms-2.new.out.items c.put-3.new.out.items
    c.in_ok-put.ensures c.in_ok-put_terms.ensures c.in_ok-put-2.ensures c.in_ok-put_terms-2.ensures closing)
    c.put-3.ensures
