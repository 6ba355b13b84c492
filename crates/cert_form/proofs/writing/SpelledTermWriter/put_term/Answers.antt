use Rattle.std.proofs.lemmas.Result.{on_ok_weaker}
use Rattle.pi_tree.specs.Protocols.{protocol_of}
use Rattle.clause_form.specs.Plain.{term_of}
use Rattle.cert_form.proofs.Formats.{spelled_written}
use Rattle.cert_form.proofs.writing.SpelledTermWriter.put_term.Goals as goal

pub returns : goal.returns
returns c = on_ok_weaker c.put_spelled.result (spelled_written (protocol_of c.args.protocol.now) (term_of c.args.term.now) c.args.out.now.items c.put_spelled.new.out.items) c.put_spelled.ensures
