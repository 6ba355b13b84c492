use Rattle.std.proofs.lemmas.Result.{on_ok_weaker}
use Rattle.pi_tree.specs.Protocols.{protocol_of}
use Rattle.cert_form.proofs.Facts.{diff_spelled}
use Rattle.cert_form.proofs.clause_text.put_diff.Goals as goal

pub returns : goal.returns
returns g c = on_ok_weaker c.put_sides.result (λ put.
    diff_spelled g.T.TermWriter.kept_of g.T.TermWriter.one (protocol_of c.args.protocol.now) (record { left = c.in_ok-spelled.spelled.left; right = c.in_ok-spelled.spelled.right }) c.args.diff.now
    (g.T.TermWriter.kept c.args.writer.now) (g.T.TermWriter.kept c.put_sides.new.writer) c.args.out.now.items c.put_sides.new.out.items
    (λ i. record { left = c.in_ok-spelled.ensures.left i; right = c.in_ok-spelled.ensures.right i }) put)
    c.put_sides.ensures
