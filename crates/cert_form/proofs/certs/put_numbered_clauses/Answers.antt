use Rattle.std.proofs.Common.{◌++◌, subst}
use Rattle.std.proofs.lemmas.Result.{on_ok_weaker}
use Rattle.pi_tree.specs.Protocols.{protocol_of}
use Rattle.cert_form.specs.Appends.{Appends}
use Rattle.cert_form.proofs.Formats.{numbered_put}
use Rattle.cert_form.proofs.certs.put_numbered_clauses.Goals as goal

pub returns : goal.returns
returns c = on_ok_weaker c.put-2.result (λ last.
    numbered_put (protocol_of c.args.protocol.now) c.args.clauses.now c.in_ok-table.table c.put_clause_lines.new.writer c.new-lines.result.items c.put_clause_lines.new.out.items
    c.args.out.now.items c.put.new.out.items c.put_nodes.new.out.items c.put-2.new.out.items
    c.in_ok-table.ensures c.new-lines.ensures.items c.in_ok-put_clause_lines.ensures c.in_ok-put.ensures c.in_ok-put_nodes.ensures
    (subst (λ bytes. Appends (λ rest. bytes ++ rest) c.put_nodes.new.out.items c.put-2.new.out.items) c.deref.ensures.value last))
    c.put-2.ensures
