use Rattle.std.proofs.Common.{ap}
use Rattle.std.proofs.lemmas.Result.{on_ok_weaker}
use Rattle.pi_tree.specs.Protocols.{protocol_of}
use Rattle.clause_form.specs.Plain.{term_of}
use Rattle.clause_form.specs.PlainFacts.{plain_fact_of}
use Rattle.cert_form.proofs.Facts.{att_written, mess_written, tab_written, ev_written, mev_written, bad_written}
use Rattle.cert_form.proofs.clause_text.put_fact.Goals as goal

pub returns-in_ok-put_term-in-Att : goal.returns-in_ok-put_term-in-Att
returns-in_ok-put_term-in-Att g c = on_ok_weaker c.put.result (λ closing.
    att_written g.T.TermWriter.kept_of g.T.TermWriter.one (protocol_of c.args.protocol.now) (plain_fact_of c.args.fact.now) c.in-Att.phase (term_of c.in-Att.term) (g.T.TermWriter.kept c.args.writer.now) (g.T.TermWriter.kept c.put_term.new.self)
    c.args.out.now.items c.put_predicate.new.out.items c.put_term.new.out.items c.put.new.out.items
    (ap plain_fact_of c.in-Att.is) c.in_ok-put_predicate-in-Att.ensures c.in_ok-put_term-in-Att.ensures closing)
    c.put.ensures

pub returns-in_ok-put_term-in-Mess-2 : goal.returns-in_ok-put_term-in-Mess-2
returns-in_ok-put_term-in-Mess-2 g c = on_ok_weaker c.put-in-Mess-2.result (λ closing.
    mess_written g.T.TermWriter.kept_of g.T.TermWriter.one (protocol_of c.args.protocol.now) (plain_fact_of c.args.fact.now) c.in-Mess.phase (term_of c.in-Mess.channel) (term_of c.in-Mess.message) (g.T.TermWriter.kept c.args.writer.now) (g.T.TermWriter.kept c.put_term-in-Mess.new.self) (g.T.TermWriter.kept c.put_term-in-Mess-2.new.self)
    c.args.out.now.items c.put_predicate-in-Mess.new.out.items c.put_term-in-Mess.new.out.items c.put-in-Mess.new.out.items c.put_term-in-Mess-2.new.out.items c.put-in-Mess-2.new.out.items
    (ap plain_fact_of c.in-Mess.is) c.in_ok-put_predicate-in-Mess.ensures c.in_ok-put_term-in-Mess.ensures c.in_ok-put-in-Mess.ensures c.in_ok-put_term-in-Mess-2.ensures closing)
    c.put-in-Mess-2.ensures

pub returns-in_ok-put_event-in-Ev : goal.returns-in_ok-put_event-in-Ev
returns-in_ok-put_event-in-Ev g c = on_ok_weaker c.put-in-Ev-2.result (λ closing.
    ev_written g.T.TermWriter.kept_of g.T.TermWriter.one (protocol_of c.args.protocol.now) (plain_fact_of c.args.fact.now) c.in-Ev.event c.in-Ev.arguments (g.T.TermWriter.kept c.args.writer.now) (g.T.TermWriter.kept c.put_event.new.writer)
    c.args.out.now.items c.put-in-Ev.new.out.items c.put_event.new.out.items c.put-in-Ev-2.new.out.items
    (ap plain_fact_of c.in-Ev.is) c.in_ok-put-in-Ev.ensures c.in_ok-put_event-in-Ev.ensures closing)
    c.put-in-Ev-2.ensures

pub returns-in_ok-put_event-in-Mev : goal.returns-in_ok-put_event-in-Mev
returns-in_ok-put_event-in-Mev g c = on_ok_weaker c.put-in-Mev-2.result (λ closing.
    mev_written g.T.TermWriter.kept_of g.T.TermWriter.one (protocol_of c.args.protocol.now) (plain_fact_of c.args.fact.now) c.in-Mev.event c.in-Mev.arguments (g.T.TermWriter.kept c.args.writer.now) (g.T.TermWriter.kept c.put_event-in-Mev.new.writer)
    c.args.out.now.items c.put-in-Mev.new.out.items c.put_event-in-Mev.new.out.items c.put-in-Mev-2.new.out.items
    (ap plain_fact_of c.in-Mev.is) c.in_ok-put-in-Mev.ensures c.in_ok-put_event-in-Mev.ensures closing)
    c.put-in-Mev-2.ensures

pub returns-in_ok-put_entry-in-Tab : goal.returns-in_ok-put_entry-in-Tab
returns-in_ok-put_entry-in-Tab g c = on_ok_weaker c.put-in-Tab-2.result (λ closing.
    tab_written g.T.TermWriter.kept_of g.T.TermWriter.one (protocol_of c.args.protocol.now) (plain_fact_of c.args.fact.now) c.in-Tab.table c.in-Tab.arguments (g.T.TermWriter.kept c.args.writer.now) (g.T.TermWriter.kept c.put_entry.new.writer)
    c.args.out.now.items c.put-in-Tab.new.out.items c.put_entry.new.out.items c.put-in-Tab-2.new.out.items
    (ap plain_fact_of c.in-Tab.is) c.in_ok-put-in-Tab.ensures c.in_ok-put_entry-in-Tab.ensures closing)
    c.put-in-Tab-2.ensures

pub returns-in_ok-put_terms-in-Bad : goal.returns-in_ok-put_terms-in-Bad
returns-in_ok-put_terms-in-Bad g c = on_ok_weaker c.put-in-Bad-2.result (λ closing.
    bad_written g.T.TermWriter.kept_of g.T.TermWriter.one (protocol_of c.args.protocol.now) (plain_fact_of c.args.fact.now) c.in-Bad.arguments (g.T.TermWriter.kept c.args.writer.now) (g.T.TermWriter.kept c.put_terms.new.writer)
    c.args.out.now.items c.put-in-Bad.new.out.items c.put_terms.new.out.items c.put-in-Bad-2.new.out.items
    (ap plain_fact_of c.in-Bad.is) c.in_ok-put-in-Bad.ensures c.in_ok-put_terms-in-Bad.ensures closing)
    c.put-in-Bad-2.ensures
