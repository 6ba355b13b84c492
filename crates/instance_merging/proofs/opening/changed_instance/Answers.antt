use Rattle.std.proofs.Common.{◌≡◌, sym, subst, rules}
use Rattle.term_tree.specs.Bank.{AreKnown}
use Rattle.term_tree.proofs.BankLaws.{Grows_trans, AreKnown-grows}
use Rattle.instance_merging.proofs.Known.{change-grows}
use Rattle.instance_merging.proofs.opening.changed_instance.Goals as goal

pub changed_terms-requires-2-clause-ready : goal.changed_terms-requires-2-clause-ready
changed_terms-requires-2-clause-ready c = change-grows c.args.bank.now c.changed_terms.new.bank c.args.change c.changed_terms.ensures.grows c.requires.ready

pub changed_terms-requires-3-clause-ready : goal.changed_terms-requires-3-clause-ready
changed_terms-requires-3-clause-ready c =
    change-grows c.args.bank.now c.changed_terms-2.new.bank c.args.change (Grows_trans c.args.bank.now c.changed_terms.new.bank c.changed_terms-2.new.bank c.changed_terms.ensures.grows c.changed_terms-2.ensures.grows) c.requires.ready

pub changed_terms-requires-2-clause-known : goal.changed_terms-requires-2-clause-known
changed_terms-requires-2-clause-known c =
    let ids = c.args.instance.now.messages in
    let items : c.deref-2.result.now ≡ ids = search rules in
    subst (AreKnown c.changed_terms.new.bank) (sym items) (AreKnown-grows c.args.bank.now c.changed_terms.new.bank ids c.changed_terms.ensures.grows c.requires.known.messages)

pub changed_terms-requires-3-clause-known : goal.changed_terms-requires-3-clause-known
changed_terms-requires-3-clause-known c =
    let ids = c.args.instance.now.sessions in
    let two = c.changed_terms-2.new.bank in
    let grows = Grows_trans c.args.bank.now c.changed_terms.new.bank two c.changed_terms.ensures.grows c.changed_terms-2.ensures.grows in
    let items : c.deref-3.result.now ≡ ids = search rules in
    subst (AreKnown two) (sym items) (AreKnown-grows c.args.bank.now two ids grows c.requires.known.sessions)

pub returns-clause-known : goal.returns-clause-known
returns-clause-known c =
    let one = c.changed_terms.new.bank in
    let two = c.changed_terms-2.new.bank in
    let three = c.changed_terms-3.new.bank in
    let supposed = rw c.in-Some.is at c.in_ok-supposed.ensures.known in
    let messages = rw c.in-Some-2.is at c.in_ok-messages.ensures.known in
    let sessions = rw c.in-Some-3.is at c.in_ok-sessions.ensures.known in
    record {
      supposed = AreKnown-grows one three c.in-Some.supposed (Grows_trans one two three c.changed_terms-2.ensures.grows c.changed_terms-3.ensures.grows) supposed;
      messages = AreKnown-grows two three c.in-Some-2.messages c.changed_terms-3.ensures.grows messages;
      sessions = sessions;
    }
