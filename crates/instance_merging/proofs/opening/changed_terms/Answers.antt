use Rattle.term_tree.proofs.BankLaws.{Grows_trans, AreKnown-grows}
use Rattle.clause_diffs.proofs.Walks.{known_at}
use Rattle.clause_instances.proofs.Closes.{one_known}
use Rattle.instance_merging.proofs.Known.{change-grows}
use Rattle.instance_merging.proofs.opening.changed_terms.Goals as goal

pub changed_term-requires-clause-known : goal.changed_term-requires-clause-known
changed_term-requires-clause-known c =
    known_at c.each.bank c.args.ids.now c.each.id-index record { index = 0 } (AreKnown-grows c.args.bank.now c.each.bank c.args.ids.now c.each.invariant.grows c.requires.known) c.each-test.true

pub changed_term-requires-clause-ready : goal.changed_term-requires-clause-ready
changed_term-requires-clause-ready c = change-grows c.args.bank.now c.each.bank c.args.change c.each.invariant.grows c.requires.ready

pub each-preserved : goal.each-preserved
each-preserved c =
    let next = c.changed_term.new.bank in
    let made = rw c.in-Some.is at c.in_ok-changed_term.ensures.known in
    record {
      grows = Grows_trans c.args.bank.now c.each.bank next c.each.invariant.grows c.changed_term.ensures.grows;
      known = one_known c.each.bank next c.each.items.items c.push.new.self.items c.in-Some.made c.each.invariant.known c.changed_term.ensures.grows made c.in_ok-push-in-Some.ensures.items;
    }
