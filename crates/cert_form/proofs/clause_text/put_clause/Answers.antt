use Rattle.std.proofs.lemmas.Result.{on_ok_weaker}
use Rattle.pi_tree.specs.Protocols.{protocol_of}
use Rattle.spec_certificate_text.specs.Sides.{spelled_clause}
use Rattle.spec_certificate_text.specs.Text.{clause_text}
use Rattle.spec_node_tables.specs.Table.{spelled_terms}
use Rattle.cert_form.proofs.Items.{at_end}
use Rattle.cert_form.proofs.Formats.{clause_put}
use Rattle.cert_form.proofs.clause_text.put_clause.Goals as goal

pub returns-clause-onto : goal.returns-clause-onto
returns-clause-onto c =
    on_ok_weaker c.put_clause_with.result (clause_put (protocol_of c.args.protocol.now) c.args.clause.now (spelled_terms (spelled_clause c.args.clause.now)) c.args.out.now.items c.put_clause_with.new.out.items) c.put_clause_with.ensures

pub returns-clause-text : goal.returns-clause-text
returns-clause-text c =
    on_ok_weaker c.put_clause_with.result (at_end (clause_text (protocol_of c.args.protocol.now) c.args.clause.now) c.args.out.now.items c.put_clause_with.new.out.items) (returns-clause-onto c)
