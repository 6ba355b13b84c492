use Rattle.std.proofs.Common.{◌∙◌, ◌||◌, ap, sym}
use Rattle.std.proofs.lemmas.Result.{on_ok_weaker}
use Rattle.pi_tree.specs.Protocols.{protocol_of}
use Rattle.spec_terms.specs.Term.{Term}
use Rattle.spec_clauses.specs.Fact.{Clause}
use Rattle.clause_form.specs.PlainFacts.{plain_fact_of}
use Rattle.cert_form.specs.Premises.{are_any}
use Rattle.cert_form.proofs.Facts.{premises_written}
use Rattle.cert_form.proofs.clause_text.put_premises.Goals as goal

pub returns : goal.returns
returns g c = on_ok_weaker c.put_space.result (λ space.
    premises_written g.T.TermWriter.kept_of g.T.TermWriter.one (protocol_of c.args.protocol.now) c.args.clause.now c.clause.inside.hyps c.clause.inside.diffs (plain_fact_of c.clause.inside.concl) c.has_hypotheses-behind.result c.has_premises-wanted.result
    (g.T.TermWriter.kept c.args.writer.now) (g.T.TermWriter.kept c.put_hypotheses.new.writer) (g.T.TermWriter.kept c.put_diffs.new.writer)
    c.args.out.now.items c.put_hypotheses.new.out.items c.put_diffs.new.out.items c.put_space.new.out.items
    c.clause.view_is c.has_hypotheses-behind.ensures (c.has_premises-wanted.ensures ∙ ap (λ (d : Clause Term). are_any d.hypotheses || are_any d.diffs) (sym c.clause.view_is)) c.in_ok-put_hypotheses.ensures c.in_ok-put_diffs.ensures space)
    c.put_space.ensures
