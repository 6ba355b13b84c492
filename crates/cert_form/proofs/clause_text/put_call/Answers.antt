use Rattle.std.proofs.Common.{refl}
use Rattle.std.proofs.lemmas.Result.{on_ok_weaker}
use Rattle.pi_tree.specs.Protocols.{protocol_of}
use Rattle.cert_form.proofs.Facts.{word_written}
use Rattle.cert_form.proofs.clause_text.put_call.Goals as goal

pub returns : goal.returns
returns g c = on_ok_weaker c.put_word_end.result (λ closed.
    word_written g.T.TermWriter.kept_of g.T.TermWriter.one (protocol_of c.args.protocol.now) c.args.word.now c.args.arguments.now (g.T.TermWriter.kept c.args.writer.now) (g.T.TermWriter.kept c.put_terms.new.writer) c.args.out.now.items c.put_word.new.out.items c.put_terms.new.out.items c.put_word_end.new.out.items
    c.args.word.now c.is_alone-alone.result refl c.is_alone-alone.ensures c.in_ok-put_word.ensures c.in_ok-put_terms.ensures closed)
    c.put_word_end.ensures
