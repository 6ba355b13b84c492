use Rattle.std.proofs.lemmas.Result.{on_ok_weaker}
use Rattle.pi_tree.specs.Protocols.{protocol_of}
use Rattle.spec_node_tables.specs.Table.{terms_in_order}
use Rattle.cert_form.proofs.Formats.{spelled_put}
use Rattle.cert_form.proofs.certs.put_spelled_clauses.Goals as goal

pub returns : goal.returns
returns c =
    on_ok_weaker c.put_clause_lines.result (spelled_put (protocol_of c.args.protocol.now) c.args.clauses.now (terms_in_order c.args.clauses.now) c.args.out.now.items c.put.new.out.items c.put_clause_lines.new.out.items c.in_ok-put.ensures) c.put_clause_lines.ensures
