use Rattle.std.proofs.lemmas.Result.{on_ok_weaker}
use Rattle.pi_tree.specs.Protocols.{protocol_of}
use Rattle.cert_form.specs.Writing.{text_in}
use Rattle.cert_form.proofs.Items.{at_end}
use Rattle.cert_form.proofs.Formats.{certificate_put}
use Rattle.cert_form.proofs.certs.put_cert.Goals as goal

pub returns-clause-onto : goal.returns-clause-onto
returns-clause-onto c = on_ok_weaker c.put.result (λ last.
    certificate_put c.args.format (protocol_of c.args.protocol.now) c.args.cert.now c.cert.inside.clauses c.cert.inside.rows c.cert.inside.goals
    c.args.out.now.items c.put_clauses.new.out.items c.put_rows.new.out.items c.put_rows-2.new.out.items c.put.new.out.items
    c.cert.view_is c.in_ok-put_clauses.ensures c.in_ok-put_rows.ensures c.in_ok-put_rows-2.ensures last)
    c.put.ensures

pub returns-clause-text : goal.returns-clause-text
returns-clause-text c =
    on_ok_weaker c.put.result (at_end (text_in c.args.format (protocol_of c.args.protocol.now) c.args.cert.now) c.args.out.now.items c.put.new.out.items) (returns-clause-onto c)
