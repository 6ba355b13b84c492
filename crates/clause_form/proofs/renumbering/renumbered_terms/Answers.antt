use Rattle.std.proofs.Common.{arith}
use Rattle.std.proofs.lemmas.Grind.{common_steps}
use Rattle.clause_diffs.specs.Numbers.{placed}
use Rattle.clause_form.proofs.Walks.{known_later}
use Rattle.clause_form.proofs.Renumber.{renumbered_on, renumbered_all}
use Rattle.term_tree.proofs.BankLaws.{Grows_refl, Grows_trans}
use Rattle.clause_form.proofs.renumbering.renumbered_terms.Goals as goal

pub renumbered-requires-clause-known : goal.renumbered-requires-clause-known
renumbered-requires-clause-known g c = (known_later (g.B.Bank.trees c.args.bank.now) (g.B.Bank.trees c.each.bank) c.args.terms.now c.each.term-index record { index = 0 } c.each.invariant.done.grows c.requires.known c.each-test.true).0

pub each-preserved : goal.each-preserved
each-preserved g c =
    let old = g.B.Bank.trees c.args.bank.now in
    let now = g.B.Bank.trees c.each.bank in
    let at = known_later old now c.args.terms.now c.each.term-index record { index = 0 } c.each.invariant.done.grows c.requires.known c.each-test.true in
    record {
      done = renumbered_on old now (g.B.Bank.trees c.renumbered.new.bank) (placed c.args.order.now) c.args.terms.now c.each.term-index record { index = 0 } c.each.items.items c.push.new.self.items c.in_ok-next.next
          c.each.invariant.done c.each-test.true c.renumbered.ensures.grows at.1 c.in_ok-next.ensures.names c.in_ok-push.ensures.items;
      changes = c.in_ok-next.ensures.changes;
    }

pub returns-clause-names : goal.returns-clause-names
returns-clause-names g c = renumbered_all (g.B.Bank.trees c.args.bank.now) (g.B.Bank.trees c.each.bank) (placed c.args.order.now) c.args.terms.now c.each.term-index c.each.items.items c.each.invariant.done c.each-test.false

pub returns-in_err-next-clause-grows : goal.returns-in_err-next-clause-grows
returns-in_err-next-clause-grows g c = Grows_trans (g.B.Bank.trees c.args.bank.now) (g.B.Bank.trees c.each.bank) (g.B.Bank.trees c.renumbered.new.bank) c.each.invariant.done.grows c.renumbered.ensures.grows

pub returns-in_err-push-clause-grows : goal.returns-in_err-push-clause-grows
returns-in_err-push-clause-grows g c = Grows_trans (g.B.Bank.trees c.args.bank.now) (g.B.Bank.trees c.each.bank) (g.B.Bank.trees c.renumbered.new.bank) c.each.invariant.done.grows c.renumbered.ensures.grows

pub returns-in_err-items-clause-grows : goal.returns-in_err-items-clause-grows
returns-in_err-items-clause-grows g c = Grows_refl (g.B.Bank.trees c.args.bank.now)

pub each-init : goal.each-init
each-init g c = grind (arith, common_steps)
