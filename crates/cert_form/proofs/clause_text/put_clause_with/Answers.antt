use Rattle.std.proofs.lemmas.Result.{on_ok_weaker}
use Rattle.pi_tree.specs.Protocols.{protocol_of}
use Rattle.clause_form.specs.PlainFacts.{plain_fact_of}
use Rattle.cert_form.proofs.Facts.{clause_written}
use Rattle.cert_form.proofs.clause_text.put_clause_with.Goals as goal

pub returns : goal.returns
returns g c = on_ok_weaker c.put_fact.result (λ conclusion.
    clause_written g.T.TermWriter.kept_of g.T.TermWriter.one (protocol_of c.args.protocol.now) c.args.clause.now (plain_fact_of c.clause.inside.concl) (g.T.TermWriter.kept c.args.writer.now) (g.T.TermWriter.kept c.put_premises.new.writer) (g.T.TermWriter.kept c.put_fact.new.writer)
    c.args.out.now.items c.put_premises.new.out.items c.put.new.out.items c.put_fact.new.out.items
    (λ i. (c.clause.view_is i).conclusion) c.in_ok-put_premises.ensures c.in_ok-put.ensures conclusion)
    c.put_fact.ensures
