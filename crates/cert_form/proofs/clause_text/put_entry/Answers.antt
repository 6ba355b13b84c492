use Rattle.std.proofs.Common.{subst}
use Rattle.std.proofs.lemmas.Result.{on_ok_weaker}
use Rattle.pi_tree.specs.Protocols.{protocol_of}
use Rattle.spec_node_tables.specs.Text.{word_over}
use Rattle.cert_form.specs.Writing.{Writes}
use Rattle.cert_form.proofs.clause_text.put_entry.Goals as goal

pub returns : goal.returns
returns g c =
    let P = protocol_of c.args.protocol.now in
    let ts = c.args.arguments.now in
    let one = g.T.TermWriter.one P in
    on_ok_weaker c.put_call.result (λ put. subst (λ w. Writes g.T.TermWriter.kept_of one ts (λ o. word_over o P w ts) (g.T.TermWriter.kept c.args.writer.now) (g.T.TermWriter.kept c.put_call.new.writer) c.args.out.now.items c.put_call.new.out.items) c.declared_word.ensures put)
    c.put_call.ensures
