use Rattle.std.proofs.lemmas.Result.{on_ok_weaker}
use Rattle.pi_tree.specs.Protocols.{protocol_of}
use Rattle.clause_form.specs.Plain.{term_of}
use Rattle.cert_form.proofs.Formats.{number_written}
use Rattle.cert_form.proofs.writing.NodeTableTermWriter.put_term.Goals as goal

pub returns : goal.returns
returns c = on_ok_weaker c.put_number.result (λ digits.
    number_written (protocol_of c.args._protocol.now) (term_of c.args.term.now) c.args.self.now c.number.new.self c.in_ok-number.number c.args.out.now.items c.put_number.new.out.items
    c.in_ok-number.ensures.table c.in_ok-number.ensures.number digits)
    c.put_number.ensures
